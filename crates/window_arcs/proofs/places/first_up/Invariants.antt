use Rattle.std.proofs.Common.{◌≤◌, ◌-◌, ◌*◌, map}
use Rattle.window_arcs.specs.Places.{IsLeft}
use Rattle.window_arcs.proofs.places.first_up.Given as goal

-- as much is left on this level
abbrev pub invariant-up : goal.invariant-up
invariant-up g l = record { some : 1 ≤ l.start; left : IsLeft l.leaves l.from (map g.N.SumNumber.value l.sums) l.start l.node }

abbrev pub decreases-up : goal.decreases-up
decreases-up g l = 2 * l.start - l.node
