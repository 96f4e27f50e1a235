use Rattle.schedule_round.proofs.Ranking.{IsCollected}
use Rattle.schedule_round.proofs.order.order_of.Given as goal

abbrev pub invariant-loop-number : goal.invariant-loop-number
invariant-loop-number l = IsCollected l.intervals.items l.full l.number l.order.items
