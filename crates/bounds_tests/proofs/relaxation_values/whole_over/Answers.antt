use Rattle.std.proofs.Math.Nat.{one-dvd}
use Rattle.bounds_tests.proofs.relaxation_values.whole_over.Goals as goal

pub instance-requires-clause-divides : goal.instance-requires-clause-divides
instance-requires-clause-divides c = λ k d lt. one-dvd _
