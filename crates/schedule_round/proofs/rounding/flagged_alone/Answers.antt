use Rattle.std.proofs.Common.{◌+◌, ◌∙◌, ap, sym, subst, length, arith}
use Rattle.schedule_round.specs.declared.schedule.Schedule.{Schedule}
use Rattle.schedule_round.proofs.Taking.{flagged_start, flagged_same, flagged_small, flagged_more, flagged_all, IsFlaggedTo}
use Rattle.schedule_round.proofs.rounding.flagged_alone.Goals as goal
use Rattle.schedule_round.proofs.rounding.flagged_alone.Goals.{then-full-number, else-full-number}

pub loop-number-init : goal.loop-number-init
loop-number-init c = (
  c.in_ok-schedule.ensures.capacity,
  flagged_start c.args.intervals.now c.args.capacity c.args.full.now c.steps.ensures.timeline c.requires.flags c.in_ok-schedule.schedule.keeps.items c.in_ok-schedule.schedule.loads
      c.steps.result c.steps.ensures.steps c.in_ok-schedule.ensures.keeps c.in_ok-schedule.ensures.loads,
)

pub loop-number-preserved : goal.loop-number-preserved
loop-number-preserved c =
    let line = c.args.intervals.now in
    let number = c.loop-number.number in
    let schedule = c.loop-number.schedule in
    elim c.if-full-number.branch [
      | then-full-number w ↦ (
        ap (λ (s : Schedule). s.capacity) w.schedule-is ∙ w.take.ensures.capacity ∙ c.loop-number.invariant.0,
        subst (λ (s : Schedule). IsFlaggedTo line c.args.capacity c.args.full.now (number + 1) s.keeps.items s.loads) (sym w.schedule-is)
            (flagged_more line c.args.capacity c.args.full.now c.steps.ensures.timeline c.requires.flags number schedule.keeps.items schedule.loads c.loop-number.invariant.1 (omega (arith, ap length c.as_slice-interval-items.ensures.items)) w.if-full-number.true
            w.take.new.self.keeps.items w.take.new.self.loads (rw c.as_slice-interval-items.ensures.items at w.take.ensures.kept) (rw c.as_slice-interval-items.ensures.items at w.take.ensures.held)),
      )
      | else-full-number w ↦ (
        ap (λ (s : Schedule). s.capacity) w.schedule-is ∙ c.loop-number.invariant.0,
        subst (λ (s : Schedule). IsFlaggedTo line c.args.capacity c.args.full.now (number + 1) s.keeps.items s.loads) (sym w.schedule-is)
            (flagged_same line c.args.capacity c.args.full.now c.steps.ensures.timeline c.requires.flags number schedule.keeps.items schedule.loads c.loop-number.invariant.1 (omega (arith, ap length c.as_slice-interval-items.ensures.items)) w.if-full-number.false),
      )
    ]

pub take-requires-clause-room : goal.take-requires-clause-room
take-requires-clause-room c =
    rw c.as_slice-interval-items.ensures.items
    (flagged_small c.args.intervals.now c.args.capacity c.args.full.now c.steps.ensures.timeline c.requires.flags c.loop-number.number c.loop-number.schedule.keeps.items c.loop-number.schedule.loads c.loop-number.invariant.1
    (omega (arith, ap length c.as_slice-interval-items.ensures.items)) c.if-full-number.true (omega arith))

pub returns-clause-flagged : goal.returns-clause-flagged
returns-clause-flagged c =
    flagged_all c.args.intervals.now c.args.capacity c.args.full.now c.steps.ensures.timeline c.requires.flags c.loop-number.number c.loop-number.schedule.keeps.items c.loop-number.schedule.loads c.loop-number.invariant.1
    (omega (arith, ap length c.as_slice-interval-items.ensures.items))
