use Rattle.std.proofs.Common.{◌≡◌, true}
use Rattle.policy_tests.proofs.helpers.trace_of.Given as goal

-- marks are kept
abbrev pub invariant-loop-ask : goal.invariant-loop-ask
invariant-loop-ask g l = l.builder.marks ≡ true
