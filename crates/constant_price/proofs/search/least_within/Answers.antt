use Rattle.std.proofs.Common.{◌≡◌, ◌^◌, ◌∙◌, sym, ap, arith}
use Rattle.constant_price.proofs.Falls.{fall_of-top}
use Rattle.constant_price.specs.Surpluses.{fall_of}
use Rattle.constant_price.proofs.search.least_within.Goals as goal
use Rattle.constant_price.proofs.search.least_within.Goals.{then-tangent-growth, else-tangent-growth}

pub search-init : goal.search-init
search-init c = record {
  order = omega (arith, c.tangent_at-low.ensures.price);
  above = omega arith;
  low_fall = cc;
  high_price = omega arith;
  within = omega arith;
  high_fall = omega (arith, fall_of-top (2 ^ 25) c.args.unit c.args.denominator c.args.intervals.now c.requires.denominator c.requires.intervals);
}

pub search-preserved : goal.search-preserved
search-preserved c =
    let there = ap (λ price. fall_of c.args.unit c.args.denominator price c.args.intervals.now) c.tangent_at-tangent.ensures.price in
    elim c.if-tangent-growth.branch [
      | then-tangent-growth w ↦ rw (w.low-is, w.high-is) (record {
        order = omega (arith, c.price_between-price.ensures.above, c.tangent_at-tangent.ensures.price);
        above = c.search.invariant.above;
        low_fall = c.search.invariant.low_fall;
        high_price = omega (arith, c.price_between-price.ensures.below, c.tangent_at-tangent.ensures.price, c.search.invariant.high_price);
        within = w.if-tangent-growth.true;
        high_fall = omega (arith, there, c.tangent_at-tangent.ensures.fall, w.if-tangent-growth.true);
      })
      | else-tangent-growth w ↦ rw (w.low-is, w.high-is) (record {
        order = omega (arith, c.price_between-price.ensures.below, c.tangent_at-tangent.ensures.price);
        above = omega (arith, w.if-tangent-growth.false);
        low_fall = c.tangent_at-tangent.ensures.fall ∙ sym there;
        high_price = c.search.invariant.high_price;
        within = c.search.invariant.within;
        high_fall = c.search.invariant.high_fall;
      })
    ]

pub returns-clause-first : goal.returns-clause-first
returns-clause-first c q next =
    let low : c.search.low.price ≡ q = omega (arith, c.search.invariant.order, c.search-test.false, next) in
    omega (arith, c.search.invariant.above, c.search.invariant.low_fall, ap (λ price. fall_of c.args.unit c.args.denominator price c.args.intervals.now) low)
