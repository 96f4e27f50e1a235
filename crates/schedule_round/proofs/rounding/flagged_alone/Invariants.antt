use Rattle.std.proofs.Common.{◌≡◌}
use Rattle.schedule_round.proofs.Taking.{IsFlaggedTo}
use Rattle.schedule_round.proofs.rounding.flagged_alone.Given as goal

abbrev pub invariant-loop-number : goal.invariant-loop-number
invariant-loop-number l =
    (l.schedule.capacity ≡ l.capacity) × IsFlaggedTo l.intervals l.capacity l.full l.number l.schedule.keeps.items l.schedule.loads
