use Rattle.std.proofs.Common.{sym, subst, arith}
use Rattle.std.proofs.lemmas.Result.{err_from_is_err_and}
use Rattle.flow_model.specs.Instances.{Instance, IsInstance, arc_of}
use Rattle.relaxation.proofs.Whole.{timeline_weights}
use Rattle.relaxation.proofs.WholeArcs.{map_take-more, whole_is_instance, whole_all}
use Rattle.relaxation.proofs.arcs.instance.Goals as goal

pub arc_of-requires-clause-weight : goal.arc_of-requires-clause-weight
arc_of-requires-clause-weight c =
    let weights = rw (← c.as_slice-items.ensures.items) at (timeline_weights c.args.intervals.now c.args.unit c.as_slice-items.ensures.timeline c.requires.unit c.requires.divides) in
    weights c.loop-interval.interval-index _ c.loop-interval-test.true

pub new-requires : goal.new-requires
new-requires c =
    let made = rw c.as_slice-items.ensures.items at c.loop-interval.invariant.arcs in
    let past = rw c.as_slice-items.ensures.items at c.loop-interval-test.false in
    let whole = whole_is_instance c.args.intervals.now c.args.unit c.args.units c.args.denominator c.steps.ensures.timeline c.requires.unit c.requires.divides c.requires.units.0 c.requires.units.1 c.requires.denominator.1 in
    rw c.steps.ensures.steps
    (subst (λ (i : Instance). IsInstance i) (sym (whole_all c.args.intervals.now c.args.unit c.args.units c.args.denominator c.loop-interval.interval-index c.loop-interval.arcs.items past made)) whole)

pub loop-interval-preserved : goal.loop-interval-preserved
loop-interval-preserved c =
    let before = c.loop-interval in
    let push = c.push_reserved.ensures in
    record {
      arcs = map_take-more (arc_of c.args.unit c.args.denominator) c.as_slice-items.result.now before.interval-index _ before.arcs.items c.push_reserved.new.self.items c.arc_of.result c.loop-interval-test.true c.arc_of.ensures before.invariant.arcs push.items;
      room = omega (arith, before.invariant.room, push.capacity);
      count = omega (arith, before.invariant.count, push.len);
    }

pub returns-in_err-arcs : goal.returns-in_err-arcs
returns-in_err-arcs c = rw (err_from_is_err_and c.from_residual.result c.from_residual.ensures.1).1 tt

pub loop-interval-init : goal.loop-interval-init
loop-interval-init c = record { arcs = c.in_ok-arcs.ensures.items; room = c.in_ok-arcs.ensures.capacity; count = c.in_ok-arcs.ensures.len }

pub arc_of-requires-clause-unit : goal.arc_of-requires-clause-unit
arc_of-requires-clause-unit c = c.requires.unit

pub push_reserved-requires : goal.push_reserved-requires
push_reserved-requires c = omega (arith, c.loop-interval.invariant.count, c.loop-interval.invariant.room, c.loop-interval-test.true)

pub returns : goal.returns
returns c =
    let made = rw c.as_slice-items.ensures.items at c.loop-interval.invariant.arcs in
    let past = rw c.as_slice-items.ensures.items at c.loop-interval-test.false in
    rw (c.new.ensures, c.steps.ensures.steps) (whole_all c.args.intervals.now c.args.unit c.args.units c.args.denominator c.loop-interval.interval-index c.loop-interval.arcs.items past made)
