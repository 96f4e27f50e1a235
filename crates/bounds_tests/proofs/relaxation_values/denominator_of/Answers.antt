use Rattle.std.proofs.Math.Nat.{one-dvd}
use Rattle.bounds_tests.proofs.relaxation_values.denominator_of.Goals as goal

pub denominator_for-requires-clause-divides : goal.denominator_for-requires-clause-divides
denominator_for-requires-clause-divides c = λ k d lt. one-dvd _
