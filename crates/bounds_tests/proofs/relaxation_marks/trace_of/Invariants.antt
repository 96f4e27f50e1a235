use Rattle.std.proofs.Common.{◌≡◌, true}
use Rattle.bounds_tests.proofs.relaxation_marks.trace_of.Given as goal

abbrev pub invariant-loop-ask : goal.invariant-loop-ask
invariant-loop-ask g l = l.builder.marks ≡ true
