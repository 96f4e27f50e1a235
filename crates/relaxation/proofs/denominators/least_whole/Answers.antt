use Rattle.std.proofs.Common.{refl}
use Rattle.interval_maker.specs.Timelines.{no_interval}
use Rattle.bound_base.proofs.Multiples.{IsGcd_positive}
use Rattle.relaxation.proofs.Whole.{so_far_none, so_far_more, so_far_all, first_past, found_within, reduced_positive}
use Rattle.relaxation.proofs.denominators.least_whole.Goals as goal

pub loop-at-init : goal.loop-at-init
loop-at-init c = so_far_none c.args.intervals.now c.args.unit

pub nonzero_div-weight-in-loop-at : goal.nonzero_div-weight-in-loop-at
nonzero_div-weight-in-loop-at c = IsGcd_positive _ _ c.gcd.result (c.requires.weights c.loop-at.at no_interval c.loop-at-test.true) c.gcd.ensures

pub lcm_to-requires-clause-b_positive : goal.lcm_to-requires-clause-b_positive
lcm_to-requires-clause-b_positive c = reduced_positive _ _ c.gcd.result (c.requires.weights c.loop-at.at no_interval c.loop-at-test.true) c.gcd.ensures

pub lcm_to-requires-clause-a_positive : goal.lcm_to-requires-clause-a_positive
lcm_to-requires-clause-a_positive c = c.loop-at.invariant.least_is.positive

pub returns-in-None-clause-limit : goal.returns-in-None-clause-limit
returns-in-None-clause-limit c =
    first_past c.args.intervals.now c.args.unit c.loop-at.at no_interval c.loop-at.multiple c.gcd.result c.loop-at-test.true c.requires.weights c.loop-at.invariant c.gcd.ensures
    (λ n lcm. (c.in-None.ensures.limit n lcm).0 refl)

pub loop-at-preserved : goal.loop-at-preserved
loop-at-preserved c =
    so_far_more c.args.intervals.now c.args.unit c.loop-at.at no_interval c.loop-at.multiple c.gcd.result c.in-Some.next c.loop-at-test.true c.requires.weights c.loop-at.invariant c.gcd.ensures
    c.in-Some.ensures.value (found_within _ _ c.in-Some.next _ c.in-Some.ensures.value c.in-Some.ensures.limit)

pub returns-clause-least : goal.returns-clause-least
returns-clause-least c = so_far_all c.args.intervals.now c.args.unit c.loop-at.at c.loop-at.multiple c.loop-at-test.false c.loop-at.invariant
