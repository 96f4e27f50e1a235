use Rattle.std.proofs.Math.Nat.{one-dvd}
use Rattle.bounds_tests.proofs.price_refine_prices.refined.Goals as goal

pub refine-requires-clause-divides : goal.refine-requires-clause-divides
refine-requires-clause-divides g c = λ k d lt. one-dvd _
