-- What a refinement gives.
use Rattle.std.specs.Prelude.{ℕ, List}

-- a price for each step, and the numerator of their bound
pub record Refinement : Type 0 where
  pub prices : List ℕ
  pub upper : ℕ
