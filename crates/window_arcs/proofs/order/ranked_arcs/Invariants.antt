use Rattle.window_arcs.proofs.OrderLemmas.{AreCollected}
use Rattle.window_arcs.proofs.order.ranked_arcs.Given as goal

-- the arcs so far are in the list
abbrev pub invariant-loop-number : goal.invariant-loop-number
invariant-loop-number l = AreCollected l.width l.arcs l.number l.ranked.items
