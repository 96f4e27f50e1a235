use Rattle.std.proofs.Common.{◌≡◌, ℕ, ◌+◌, ◌*◌, ◌^◌, ◌≤◌, ◌∷◌, [], get_or, sym, ◌∙◌, arith}
use Rattle.std.proofs.lemmas.List.{length_push}
use Rattle.std.proofs.lemmas.List.Elements.{All-get_or, All-push}
use Rattle.std.proofs.lemmas.List.Sums.{sum_by-append, sum_by_more}
use Rattle.interval_maker.specs.Timelines.{IsInterval, no_interval}
use Rattle.constant_price.specs.Surpluses.{fall_at}
use Rattle.constant_price.proofs.Bracketed.{fall-fits, steady-between}
use Rattle.constant_price.proofs.near.deciding_between.Goals.{then-early-late, else-early-late+in_ok-push}
use Rattle.constant_price.proofs.near.deciding_between.Goals as goal

pub loop-interval-preserved : goal.loop-interval-preserved
loop-interval-preserved c =
    let a = c.args in
    let k = c.loop-interval.interval-index in
    let i = get_or a.intervals.now k no_interval in
    let so_far = c.loop-interval.invariant in
    let is : IsInterval (2 ^ 25) i = All-get_or (IsInterval (2 ^ 25)) a.intervals.now k no_interval c.loop-interval-test.true c.requires.intervals in
    elim c.if-early-late.branch [
      | then-early-late w ↦ rw (w.found-is, w.steady-is) (record {
        falls = λ q from to. omega (
          arith,
          sum_by_more (fall_at a.unit a.denominator q) a.intervals.now k no_interval c.loop-interval-test.true,
          so_far.falls q from to,
          steady-between a.unit a.denominator i a.low a.high q from to (sym c.surplus_and_fall-early.ensures.fall ∙ w.if-early-late.true ∙ c.surplus_and_fall-late.ensures.fall),
          c.surplus_and_fall-late.ensures.fall,
        );
        few = omega (arith, so_far.few);
        intervals = so_far.intervals;
        fits = omega (arith, so_far.fits, c.surplus_and_fall-late.ensures.fall, fall-fits (2 ^ 25) a.unit a.denominator a.high i c.requires.denominator is);
      })
      | else-early-late+in_ok-push w ↦ rw (w.found-is, w.steady-is, w.in_ok-push.ensures.items) (record {
        falls = λ q from to. omega (
          arith,
          sum_by_more (fall_at a.unit a.denominator q) a.intervals.now k no_interval c.loop-interval-test.true,
          so_far.falls q from to,
          sum_by-append (fall_at a.unit a.denominator q) c.loop-interval.found.items (i ∷ []),
        );
        few = omega (arith, so_far.few, length_push c.loop-interval.found.items i);
        intervals = All-push (IsInterval (2 ^ 25)) c.loop-interval.found.items i so_far.intervals is;
        fits = omega (arith, so_far.fits);
      })
    ]
