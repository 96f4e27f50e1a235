use Rattle.window_arcs.proofs.OrderLemmas.{AreNoted}
use Rattle.window_arcs.proofs.order.ranks_of.Given as goal

-- the ranks so far are noted
abbrev pub invariant-loop-rank : goal.invariant-loop-rank
invariant-loop-rank l = AreNoted l.arcs l.numbers l.rank l.ranks.items
