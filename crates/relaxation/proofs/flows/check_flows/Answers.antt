use Rattle.std.proofs.Common.{◌∙◌, sym, arith, below_more}
use Rattle.relaxation.proofs.Loads.{counted, carried_none, carried_next, step_low, schedule_of_no_fault}
use Rattle.relaxation.proofs.flows.check_flows.Goals as goal

pub loop-step-init : goal.loop-step-init
loop-step-init c = record { load = sym (carried_none c.args.intervals.now.items c.args.flows.now); low = omega arith; none_before = λ s low. absurd (omega arith) }

pub overflow_sub-load : goal.overflow_sub-load
overflow_sub-load c =
    (counted c.args.intervals.now c.args.flows.now c.loop-step.step c.loop-step.load c.flow_at.result c.flow_at-in-loop-step.result c.starting-starting.result c.ending-ending.result
    c.steps-step-end.ensures.timeline c.requires.each c.loop-step.invariant.load c.starting-starting.ensures.number c.ending-ending.ensures.number c.flow_at.ensures c.flow_at-in-loop-step.ensures).0

pub check_step-requires-clause-load : goal.check_step-requires-clause-load
check_step-requires-clause-load c =
    rw c.as_slice.ensures.items
    (counted c.args.intervals.now c.args.flows.now c.loop-step.step c.loop-step.load c.flow_at.result c.flow_at-in-loop-step.result c.starting-starting.result c.ending-ending.result
    c.steps-step-end.ensures.timeline c.requires.each c.loop-step.invariant.load c.starting-starting.ensures.number c.ending-ending.ensures.number c.flow_at.ensures c.flow_at-in-loop-step.ensures).1

pub loop-step-preserved : goal.loop-step-preserved
loop-step-preserved c =
    let load = (counted c.args.intervals.now c.args.flows.now c.loop-step.step c.loop-step.load c.flow_at.result c.flow_at-in-loop-step.result c.starting-starting.result c.ending-ending.result
    c.steps-step-end.ensures.timeline c.requires.each c.loop-step.invariant.load c.starting-starting.ensures.number c.ending-ending.ensures.number c.flow_at.ensures c.flow_at-in-loop-step.ensures).1 in
    let passes = rw (c.as_slice.ensures.items, c.starting-starting.ensures.number) at c.in_ok-check_step.ensures in
    let low = (step_low c.args.intervals.now.items c.args.unit c.args.units c.args.flows.now c.loop-step.step _ passes).1 in
    record {
      load = load ∙ sym (carried_next c.args.intervals.now.items c.args.flows.now c.loop-step.step);
      low = omega (arith, load, low);
      none_before = below_more _ _ c.loop-step.invariant.none_before passes;
    }

pub returns-clause-schedule : goal.returns-clause-schedule
returns-clause-schedule c =
    schedule_of_no_fault c.args.intervals.now c.args.unit c.args.units c.args.flows.now c.steps-step-end.ensures.timeline c.requires.each
    (λ t low. c.loop-step.invariant.none_before t (omega (arith, low)))
