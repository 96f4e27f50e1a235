use Rattle.std.proofs.Common.{◌≡◌}
use Rattle.schedule_round.proofs.Fitting.{IsRoundedTo}
use Rattle.schedule_round.proofs.rounding.round.Given as goal

abbrev pub invariant-loop-ranked : goal.invariant-loop-ranked
invariant-loop-ranked l =
    (l.schedule.capacity ≡ l.capacity) × IsRoundedTo l.intervals l.capacity l.full l.ranked-items l.ranked-index l.schedule.keeps.items l.schedule.loads
