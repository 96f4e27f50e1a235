use Rattle.std.proofs.Common.{◌-◌, length}
use Rattle.window_arcs.proofs.EventLemmas.{IsRead}
use Rattle.window_arcs.proofs.events.Events.push_numbers.Given as goal

-- the list is read up to the number
abbrev pub invariant-along : goal.invariant-along
invariant-along l = IsRead l.self-inside.keys.items l.self-inside.next.items l.key l.number l.initial.numbers.items l.numbers.items

abbrev pub decreases-along : goal.decreases-along
decreases-along l = length l.self-inside.keys.items - l.number
