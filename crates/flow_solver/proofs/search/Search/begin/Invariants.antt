use Rattle.std.proofs.Common.{◌≡◌, ℕ, ◌<◌, get_or}
use Rattle.flow_solver.proofs.search.Search.begin.Given as goal

abbrev pub invariant-loop-distance : goal.invariant-loop-distance
invariant-loop-distance l = (k : ℕ) → k < l.distance-index → get_or l.distance-items k 0 ≡ l.far
