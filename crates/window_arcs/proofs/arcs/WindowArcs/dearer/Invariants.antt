use Rattle.std.proofs.Common.{◌≤◌, ◌-◌, length}
use Rattle.window_arcs.proofs.arcs.WindowArcs.dearer.Given as goal

-- the rank is from the one up to the other
abbrev pub invariant-half : goal.invariant-half
invariant-half l = record { order : l.low ≤ l.high; within : l.high ≤ length l.fn.self.order }

abbrev pub decreases-half : goal.decreases-half
decreases-half l = l.high - l.low
