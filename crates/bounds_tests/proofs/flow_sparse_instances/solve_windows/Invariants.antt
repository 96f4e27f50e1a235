use Rattle.std.proofs.Common.{◌≡◌, ◌-◌, ◌*◌}
use Rattle.bounds_tests.proofs.flow_sparse_instances.solve_windows.Given as goal

abbrev pub invariant-loop-alloc : goal.invariant-loop-alloc
invariant-loop-alloc g l = record { whole : l.windows.whole ≡ l.whole; width : l.windows.width ≡ l.width }

abbrev pub decreases-loop-alloc : goal.decreases-loop-alloc
decreases-loop-alloc g l = l.whole.steps - l.width * l.windows.number
