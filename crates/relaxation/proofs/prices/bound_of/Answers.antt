use Rattle.std.proofs.Common.{ℕ, ◌*◌, ◌^◌, ◌≤◌, ap, subst, length, arith}
use Rattle.interval_maker.specs.Timelines.{no_interval}
use Rattle.relaxation.proofs.Bounds.{bound_all, none_scores_more}
use Rattle.relaxation.proofs.prices.bound_of.Goals as goal

pub returns-clause-no_policy_scores_more : goal.returns-clause-no_policy_scores_more
returns-clause-no_policy_scores_more c = λ terms trace contents is shared allowed.
    let value = rw c.as_slice-interval-items.ensures.items at
    (bound_all c.as_slice-interval-items.result.now c.args.unit c.args.units c.args.denominator c.loop-interval.interval-index c.loop-interval.total c.args.sums.now.prices
    c.loop-interval-test.false c.loop-interval.invariant.value) in
    none_scores_more terms c.args.unit c.args.units c.args.denominator trace c.args.sums.now.prices contents c.args.intervals.now c.loop-interval.total is shared c.requires.each_step value allowed

pub overflow_mul-total : goal.overflow_mul-total
overflow_mul-total c =
    let most = subst (λ (units : ℕ). units * c.total.result ≤ 2 ^ 126) c.requires.units c.total.ensures.most in
    omega (arith, most)

pub loop-interval-init : goal.loop-interval-init
loop-interval-init c =
    let most = subst (λ (units : ℕ). units * c.total.result ≤ 2 ^ 126) c.requires.units c.total.ensures.most in
    record { value = omega (arith, ap (λ sum. c.args.units * sum) c.total.ensures.sum); small = omega (arith, most) }

pub surplus_of-total-requires-clause-unit : goal.surplus_of-total-requires-clause-unit
surplus_of-total-requires-clause-unit c = c.requires.unit

pub surplus_of-total-requires-clause-denominator : goal.surplus_of-total-requires-clause-denominator
surplus_of-total-requires-clause-denominator c = c.requires.denominator

pub returns-clause-value : goal.returns-clause-value
returns-clause-value c =
    rw c.as_slice-interval-items.ensures.items at
    (bound_all c.as_slice-interval-items.result.now c.args.unit c.args.units c.args.denominator c.loop-interval.interval-index c.loop-interval.total c.args.sums.now.prices
    c.loop-interval-test.false c.loop-interval.invariant.value)

pub surplus_of-total-requires-clause-gain : goal.surplus_of-total-requires-clause-gain
surplus_of-total-requires-clause-gain c =
    let intervals = rw (← c.as_slice-interval-items.ensures.items) at c.as_slice-interval-items.ensures.timeline.intervals in
    let one = intervals c.loop-interval.interval-index no_interval c.loop-interval-test.true in
    one.gain.1

pub surplus_of-total-requires-clause-within : goal.surplus_of-total-requires-clause-within
surplus_of-total-requires-clause-within c =
    let intervals = rw (← c.as_slice-interval-items.ensures.items) at c.as_slice-interval-items.ensures.timeline.intervals in
    let one = intervals c.loop-interval.interval-index no_interval c.loop-interval-test.true in
    (omega (arith, one.order), omega (arith, one.within, c.requires.each_step))

pub overflow_add-total : goal.overflow_add-total
overflow_add-total c = omega (arith, c.loop-interval.invariant.small, c.surplus_of-total.ensures.small, c.loop-interval-test.true, ap length c.as_slice-interval-items.ensures.items, c.as_slice-interval-items.ensures.timeline.few_intervals, c.as_slice-interval-items.ensures.timeline.few_steps)

pub returns-clause-small : goal.returns-clause-small
returns-clause-small c = omega (arith, c.loop-interval.invariant.small, c.loop-interval.auto.interval-index-end, ap length c.as_slice-interval-items.ensures.items, c.as_slice-interval-items.ensures.timeline.few_intervals, c.as_slice-interval-items.ensures.timeline.few_steps)
