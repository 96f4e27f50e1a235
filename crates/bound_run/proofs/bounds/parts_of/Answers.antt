use Rattle.std.proofs.Common.{◌∙◌, ◌/◌, refl, arith, sym, ap}
use Rattle.std.proofs.Math.Nat.{div-le_self}
use Rattle.std.proofs.lemmas.Result.{err_from_is_err_and}
use Rattle.schedule_round.proofs.Flags.{full_flags_fit}
use Rattle.bound_run.proofs.MadeOf.{made_of, some_units, unit-le_capacity}
use Rattle.bound_run.proofs.Relaxing.{flows_each}
use Rattle.bound_run.proofs.bounds.parts_of.Goals as goal

pub invariant_of-scale : goal.invariant_of-scale
invariant_of-scale c = record {
  some_unit = c.unit_of-unit.ensures.positive;
  units_in_range =
      let capacity = c.asked.inside.terms.capacity in
      let fit = rw (← c.asked.view_is) at c.requires.fit in (
        some_units capacity c.unit_of-unit.result c.unit_of-unit.ensures.positive
            (unit-le_capacity c.args.intervals.now capacity c.unit_of-unit.result c.asked.invariant.capacity.0 c.requires.timeline fit c.unit_of-unit.ensures.unit),
        omega (arith, div-le_self capacity c.unit_of-unit.result, c.asked.invariant.capacity.1),
      );
  denominator_in_range = c.in_ok-denominator.ensures.range;
}

pub schedule_of-requires-clause-flags : goal.schedule_of-requires-clause-flags
schedule_of-requires-clause-flags c =
    rw (c.deref.ensures.value, c.in_ok-relaxed.ensures.relaxed.full)
    (full_flags_fit c.args.intervals.now.items c.asked.inside.terms.capacity c.unit_of-unit.result c.in_ok-relaxed.relaxed.solution.flows c.unit_of-unit.ensures.unit.divides c.in_ok-relaxed.ensures.relaxed.schedule)

pub returns-clause-made : goal.returns-clause-made
returns-clause-made c =
    rw (c.is_exact.ensures, ← c.asked.view_is)
    (made_of c.asked.inside c.args.trace.now c.args.intervals.now c.len-requests.result c.unit_of-unit.result (c.asked.inside.terms.capacity / c.unit_of-unit.result) c.in_ok-denominator.denominator.value c.in_ok-denominator.denominator.exact
    c.in_ok-relaxed.relaxed.upper c.in_ok-relaxed.relaxed.flow c.in_ok-schedule.schedule.lower c.in_ok-relaxed.relaxed.price c.in_ok-relaxed.relaxed.solution.prices c.in_ok-relaxed.relaxed.solution.flows c.in_ok-schedule.schedule.keeps
    (rw (← c.asked.view_is) at c.requires.intervals) c.len-requests.ensures.requests refl (record {
      in_range = c.asked.invariant;
      few = omega (arith, c.len-requests.ensures.requests, c.len-requests.ensures.most);
      is_line = c.requires.timeline;
      fit = rw (← c.asked.view_is) at c.requires.fit;
      unit_is = c.unit_of-unit.ensures.unit;
      positive = c.unit_of-unit.ensures.positive;
      units_are = refl;
      chosen = rw (← c.asked.view_is) at c.in_ok-denominator.ensures.chosen;
      range = c.in_ok-denominator.ensures.range;
      whole = c.in_ok-denominator.ensures.exact.0;
      whole_back = c.in_ok-denominator.ensures.exact.1;
      of_mode = rw (← c.asked.view_is) at c.in_ok-relaxed.ensures.of_mode;
      each = c.in_ok-relaxed.ensures.relaxed.each;
      paid = c.in_ok-relaxed.ensures.relaxed.paid;
      last = c.in_ok-relaxed.ensures.relaxed.last;
      schedule = c.in_ok-relaxed.ensures.relaxed.schedule;
      bound = c.in_ok-relaxed.ensures.relaxed.bound;
      small = c.in_ok-relaxed.ensures.relaxed.small;
      value = c.in_ok-relaxed.ensures.relaxed.value;
      small_value = omega (arith, c.in_ok-relaxed.ensures.relaxed.small_value);
      rounded = rw (c.deref.ensures.value, c.in_ok-relaxed.ensures.relaxed.full) at c.in_ok-schedule.ensures.rounded;
      maximal = c.in_ok-schedule.ensures.maximal;
      allowed = c.in_ok-schedule.ensures.allowed;
      scored = c.in_ok-schedule.ensures.lower;
    }))

pub returns-clause-each : goal.returns-clause-each
returns-clause-each c = record {
  prices = c.in_ok-relaxed.ensures.relaxed.each;
  keeps = c.in_ok-schedule.ensures.rounded.one_keep_each ∙ sym (ap (λ l. l.steps) c.requires.intervals);
  flows = flows_each c.unit_of-unit.result c.args.intervals.now.items c.in_ok-relaxed.relaxed.solution.flows c.in_ok-relaxed.ensures.relaxed.schedule.within_weights;
}

pub denominator_of-requires-clause-intervals : goal.denominator_of-requires-clause-intervals
denominator_of-requires-clause-intervals c = c.requires.intervals

pub denominator_of-requires-clause-unit : goal.denominator_of-requires-clause-unit
denominator_of-requires-clause-unit c = c.unit_of-unit.ensures.unit

pub denominator_of-requires-clause-positive : goal.denominator_of-requires-clause-positive
denominator_of-requires-clause-positive c = c.unit_of-unit.ensures.positive

pub nonzero_div-units : goal.nonzero_div-units
nonzero_div-units c = omega (arith, c.unit_of-unit.ensures.positive)

pub returns-in_err-denominator-clause-made : goal.returns-in_err-denominator-clause-made
returns-in_err-denominator-clause-made c = rw (err_from_is_err_and c.from_residual.result c.from_residual.ensures.1).1 tt

pub returns-in_err-denominator-clause-refused : goal.returns-in_err-denominator-clause-refused
returns-in_err-denominator-clause-refused c =
    let p = err_from_is_err_and c.from_residual.result c.from_residual.ensures.1 in
    rw (p.1, p.2) c.in_err-denominator.ensures.refused

pub relax-requires : goal.relax-requires
relax-requires c = record { timeline = c.requires.timeline; divides = c.unit_of-unit.ensures.unit.divides }

pub returns-in_err-relaxed-clause-made : goal.returns-in_err-relaxed-clause-made
returns-in_err-relaxed-clause-made c = rw (err_from_is_err_and c.from_residual-in_err-relaxed.result c.from_residual-in_err-relaxed.ensures.1).1 tt

pub returns-in_err-relaxed-clause-refused : goal.returns-in_err-relaxed-clause-refused
returns-in_err-relaxed-clause-refused c =
    let p = err_from_is_err_and c.from_residual-in_err-relaxed.result c.from_residual-in_err-relaxed.ensures.1 in
    rw (p.1, p.2) tt

pub schedule_of-requires-clause-intervals : goal.schedule_of-requires-clause-intervals
schedule_of-requires-clause-intervals c = rw (← c.asked.view_is) at c.requires.intervals

pub schedule_of-requires-clause-fit : goal.schedule_of-requires-clause-fit
schedule_of-requires-clause-fit c = rw (← c.asked.view_is) at c.requires.fit

pub returns-in_err-schedule-clause-refused : goal.returns-in_err-schedule-clause-refused
returns-in_err-schedule-clause-refused c =
    let p = err_from_is_err_and c.from_residual-in_err-schedule.result c.from_residual-in_err-schedule.ensures.1 in
    rw (p.1, p.2) tt

pub returns-clause-intervals : goal.returns-clause-intervals
returns-clause-intervals c = ap (λ l. l.items) (rw (← c.asked.view_is) at c.requires.intervals)

pub returns-clause-refused : goal.returns-clause-refused
returns-clause-refused c = tt

pub returns-in_err-schedule-clause-made : goal.returns-in_err-schedule-clause-made
returns-in_err-schedule-clause-made c = rw (err_from_is_err_and c.from_residual-in_err-schedule.result c.from_residual-in_err-schedule.ensures.1).1 tt

pub returns-in_err-denominator-clause-intervals : goal.returns-in_err-denominator-clause-intervals
returns-in_err-denominator-clause-intervals c = rw (err_from_is_err_and c.from_residual.result c.from_residual.ensures.1).1 tt

pub returns-in_err-denominator-clause-each : goal.returns-in_err-denominator-clause-each
returns-in_err-denominator-clause-each c = rw (err_from_is_err_and c.from_residual.result c.from_residual.ensures.1).1 tt

pub returns-in_err-relaxed-clause-intervals : goal.returns-in_err-relaxed-clause-intervals
returns-in_err-relaxed-clause-intervals c = rw (err_from_is_err_and c.from_residual-in_err-relaxed.result c.from_residual-in_err-relaxed.ensures.1).1 tt

pub returns-in_err-relaxed-clause-each : goal.returns-in_err-relaxed-clause-each
returns-in_err-relaxed-clause-each c = rw (err_from_is_err_and c.from_residual-in_err-relaxed.result c.from_residual-in_err-relaxed.ensures.1).1 tt

pub returns-in_err-schedule-clause-intervals : goal.returns-in_err-schedule-clause-intervals
returns-in_err-schedule-clause-intervals c = rw (err_from_is_err_and c.from_residual-in_err-schedule.result c.from_residual-in_err-schedule.ensures.1).1 tt

pub returns-in_err-schedule-clause-each : goal.returns-in_err-schedule-clause-each
returns-in_err-schedule-clause-each c = rw (err_from_is_err_and c.from_residual-in_err-schedule.result c.from_residual-in_err-schedule.ensures.1).1 tt
