use Rattle.window_arcs.proofs.EventLemmas.{AreBegun}
use Rattle.window_arcs.proofs.events.Events.new.Given as goal

-- the numbers from this one on are listed
abbrev pub invariant-loop-number : goal.invariant-loop-number
invariant-loop-number l = AreBegun l.keys.items l.lists l.first.items l.next.items l.number
