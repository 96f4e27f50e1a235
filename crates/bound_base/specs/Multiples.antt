-- Common multiples of two numbers.
use Rattle.std.specs.Prelude.{ℕ}
use Prim.Native.Nat.{◌∣◌}

-- a multiple of both numbers that divides every other one
pub record IsLcm (a b multiple : ℕ) : Type 0 where
  pub of_first : a ∣ multiple
  pub of_second : b ∣ multiple
  pub least : (m : ℕ) → a ∣ m → b ∣ m → multiple ∣ m
