-- Prices and flows that stand together.
use Rattle.std.specs.Prelude.{ℕ, List}

-- a price for each step, and a flow for each arc
pub record Answer : Type 0 where
  pub prices : List ℕ
  pub flows : List ℕ
