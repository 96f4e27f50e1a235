use Rattle.std.proofs.Common.{◌∙◌, refl}
use Rattle.flow_model.proofs.Whole.{fractional}
use Rattle.bound_run.proofs.Relaxing.{ends_before, full_of-arcs, paid_little}
use Rattle.bound_run.proofs.relaxed.by_windows.Goals as goal

pub returns-clause-paid : goal.returns-clause-paid
returns-clause-paid c =
    rw c.into_parts.ensures.prices
    (paid_little c.args.intervals.now c.args.scale.unit c.args.scale.units c.args.scale.denominator c.in_ok-found.found.prices c.steps.ensures.timeline c.args.scale.some_unit c.requires.divides c.args.scale.denominator_in_range.1
    (rw c.in_ok-whole.ensures at c.in_ok-found.ensures.paid))

pub returns-clause-last : goal.returns-clause-last
returns-clause-last c =
    rw c.into_parts.ensures.prices
    ((rw c.in_ok-whole.ensures at c.in_ok-found.ensures.last) (ends_before c.args.intervals.now c.args.scale.unit c.args.scale.units c.args.scale.denominator c.steps.ensures.timeline))

pub returns-clause-schedule : goal.returns-clause-schedule
returns-clause-schedule c =
    rw c.into_parts.ensures.flows
    (fractional c.args.intervals.now.items c.args.intervals.now.steps c.args.scale.unit c.args.scale.units c.args.scale.denominator c.in_ok-found.found.flows
    (rw c.in_ok-whole.ensures at c.in_ok-found.ensures.schedule))

pub returns-clause-of_mode : goal.returns-clause-of_mode
returns-clause-of_mode c =
    rw (c.into_parts.ensures.prices, c.into_parts.ensures.flows) (
      refl,
      rw (c.width_of.ensures, c.steps.ensures.steps, c.in_ok-whole.ensures) at c.in_ok-found.ensures.windows,
      rw (c.width_of.ensures, c.steps.ensures.steps, c.in_ok-whole.ensures) at c.in_ok-found.ensures.one_window,
    )

pub returns-clause-full : goal.returns-clause-full
returns-clause-full c =
    rw (c.into_parts.ensures.full, c.into_parts.ensures.flows)
    ((rw c.in_ok-whole.ensures at c.in_ok-found.ensures.full) ∙ full_of-arcs c.args.scale.unit c.args.scale.denominator c.args.intervals.now.items c.in_ok-found.found.flows)
