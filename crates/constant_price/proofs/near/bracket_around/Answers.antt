use Rattle.std.proofs.Common.{◌≡◌, ◌+◌, ◌^◌, ◌<◌, ◌≤◌, ℕ, arith, refl}
use Rattle.constant_price.specs.Surpluses.{fall_of}
use Rattle.constant_price.proofs.Bracketed.{above-to}
use Rattle.constant_price.proofs.Falls.{fall_of-top}
use Rattle.constant_price.proofs.near.bracket_around.Goals.{then-tangent_at-growth, else-tangent_at-growth}
use Rattle.constant_price.proofs.near.bracket_around.Goals as goal

pub loop-turn-init : goal.loop-turn-init
loop-turn-init c = record {
  low = λ q under. absurd (omega (arith, under));
  high = omega (arith, fall_of-top (2 ^ 25) c.args.unit c.args.denominator c.args.intervals.now c.requires.denominator c.requires.intervals);
  top = omega arith;
  price = omega (arith, c.min-price.ensures);
}

pub returns-then-is_closed-clause-low : goal.returns-then-is_closed-clause-low
returns-then-is_closed-clause-low c =
    let a = c.args in
    elim c.if-tangent_at-growth.branch [
      | then-tangent_at-growth w ↦ rw w.found-is c.loop-turn.invariant.low
      | else-tangent_at-growth w ↦ rw w.found-is
          (above-to a.unit a.denominator a.growth c.loop-turn.price (c.loop-turn.price + 1) a.intervals.now (omega (arith, w.if-tangent_at-growth.false, c.tangent_at.ensures.fall)) refl)
    ]

pub loop-turn-preserved : goal.loop-turn-preserved
loop-turn-preserved c =
    let a = c.args in
    elim c.if-tangent_at-growth.branch [
      | then-tangent_at-growth w ↦ rw (w.found-is, w.price-is) (record {
        low = c.loop-turn.invariant.low;
        high = omega (arith, w.if-tangent_at-growth.true, c.tangent_at.ensures.fall);
        top = omega (arith, c.loop-turn.invariant.price);
        price = omega (arith, c.loop-turn.invariant.price, w.saturating_sub-price.ensures);
      })
      | else-tangent_at-growth w ↦ rw (w.found-is, w.price-is) (record {
        low = above-to a.unit a.denominator a.growth c.loop-turn.price (c.loop-turn.price + 1) a.intervals.now (omega (arith, w.if-tangent_at-growth.false, c.tangent_at.ensures.fall)) refl;
        high = c.loop-turn.invariant.high;
        top = c.loop-turn.invariant.top;
        price = omega (arith, w.min-price-else-tangent_at-growth.ensures);
      })
    ]
