use Rattle.std.proofs.Common.{◌≡◌, ℕ, ◌+◌, ◌<◌, get_or, slice_index}
use Rattle.flow_solver.proofs.solver.write_prices.Given as goal

abbrev pub invariant-loop-step : goal.invariant-loop-step
invariant-loop-step l =
    (k : ℕ) → k < l.step → get_or l.prices k 0 + slice_index l.network.potentials (k + 1) ≡ slice_index l.network.potentials k
