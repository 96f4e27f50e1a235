use Rattle.std.proofs.Common.{◌≡◌, true}
use Rattle.policy_tests.proofs.replay_fresh_rows.trace_of.Given as goal

-- marks are kept
abbrev pub invariant-loop-asked : goal.invariant-loop-asked
invariant-loop-asked g l = l.builder.marks ≡ true
