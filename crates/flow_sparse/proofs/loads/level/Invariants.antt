use Rattle.std.proofs.Common.{◌≡◌, ℕ, ◌^◌, ◌<◌, length, slice_index}
use Rattle.flow_sparse.proofs.loads.level.Given as goal

abbrev pub invariant-loop-place : goal.invariant-loop-place
invariant-loop-place l =
    record {
      each : length l.changes ≡ length l.initial.changes;
      levels : (t : ℕ) → t < l.place → slice_index l.changes t ≡ 2 ^ 100;
    }
