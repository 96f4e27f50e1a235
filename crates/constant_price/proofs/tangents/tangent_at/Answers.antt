use Rattle.std.proofs.Common.{◌≡◌, ℕ, ◌+◌, ◌*◌, ◌^◌, ◌<◌, ◌≤◌, arith}
use Rattle.std.proofs.lemmas.List.Sums.{sum_by_more}
use Rattle.cache_model.specs.declared.intervals.Interval.{Interval}
use Rattle.interval_maker.specs.Timelines.{IsInterval, no_interval}
use Rattle.constant_price.specs.Surpluses.{surplus_at, fall_at}
use Rattle.constant_price.proofs.Falls.{gain_within}
use Rattle.constant_price.proofs.tangents.tangent_at.Goals as goal

-- neither the surplus nor the fall of an interval passes the greatest price
each_within : (unit denominator price : ℕ) (i : Interval) → denominator ≤ 2 ^ 48 → IsInterval (2 ^ 25) i → (surplus_at unit denominator price i ≤ 2 ^ 96) × (fall_at unit denominator price i ≤ 2 ^ 96)
each_within unit denominator price i small is =
    let gain = gain_within (2 ^ 25) denominator i small is in
    let surplus : surplus_at unit denominator price i ≤ 2 ^ 96 = omega (arith, gain) in
    (surplus, omega (arith, surplus))

pub surplus_and_fall-left-requires-clause-interval : goal.surplus_and_fall-left-requires-clause-interval
surplus_and_fall-left-requires-clause-interval c = c.requires.intervals _ _ c.loop-interval-test.true

-- the parts of this interval
within : (c : goal.After-surplus_and_fall-left) → (c.surplus_and_fall-left.result.0 ≤ 2 ^ 96) × (c.surplus_and_fall-left.result.1 ≤ 2 ^ 96)
within c =
    let each = each_within c.args.unit c.args.denominator c.args.price _ c.requires.denominator (c.requires.intervals _ no_interval c.loop-interval-test.true) in
    rw (c.surplus_and_fall-left.ensures.surplus, c.surplus_and_fall-left.ensures.fall) each

pub overflow_add-surplus : goal.overflow_add-surplus
overflow_add-surplus c = omega (arith, c.loop-interval.invariant.surplus_fits, (within c).0, c.loop-interval-test.true, c.requires.few)

pub overflow_add-fall : goal.overflow_add-fall
overflow_add-fall c = omega (arith, c.loop-interval.invariant.fall_fits, (within c).1, c.loop-interval-test.true, c.requires.few)

pub loop-interval-preserved : goal.loop-interval-preserved
loop-interval-preserved c =
    let a = c.args in
    let i = c.loop-interval.invariant in
    let surplus = sum_by_more (surplus_at a.unit a.denominator a.price) a.intervals.now c.loop-interval.interval-index no_interval c.loop-interval-test.true in
    let fall = sum_by_more (fall_at a.unit a.denominator a.price) a.intervals.now c.loop-interval.interval-index no_interval c.loop-interval-test.true in
    record {
      surplus = omega (arith, surplus, i.surplus, c.surplus_and_fall-left.ensures.surplus);
      surplus_fits = omega (arith, i.surplus_fits, (within c).0);
      fall = omega (arith, fall, i.fall, c.surplus_and_fall-left.ensures.fall);
      fall_fits = omega (arith, i.fall_fits, (within c).1);
    }
