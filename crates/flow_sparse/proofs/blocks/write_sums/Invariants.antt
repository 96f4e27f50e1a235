use Rattle.std.proofs.Common.{◌≡◌, length}
use Rattle.flow_sparse.proofs.blocks.write_sums.Given as goal

abbrev pub invariant-loop-step : goal.invariant-loop-step
invariant-loop-step l = length l.sums ≡ length l.initial.sums
