use Rattle.std.proofs.Common.{◌≡◌, ℕ, ◌<◌, ◌≤◌, length, slice_index_or}
use Rattle.policy_sweep.specs.Running.{Advances}
use Rattle.policy_sweep.specs.declared.running.Running.{Running}
use Rattle.policy_sweep.proofs.replays.go_through_all.Given as goal

-- the first policies have gone through the requests, and the others are as they were
abbrev pub invariant-loop-place : goal.invariant-loop-place
invariant-loop-place l = record {
  each : length l.running.items ≡ length l.initial.running.items;
  gone : (i : ℕ) (d : Running) → i < l.place → Advances l.batch (slice_index_or l.initial.running.items i d) (slice_index_or l.running.items i d);
  rest : (i : ℕ) (d : Running) → l.place ≤ i → slice_index_or l.running.items i d ≡ slice_index_or l.initial.running.items i d;
}
