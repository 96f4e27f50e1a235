-- The greatest common divisor of the sizes of intervals.
use Rattle.std.specs.Prelude.{ℕ, List, All}
use Prim.Native.Nat.{◌∣◌}
use Rattle.cache_model.specs.declared.intervals.Interval.{Interval}

-- a number that divides the sizes, and that each other number that does so divides
pub record IsGreatest (intervals : List Interval) (u : ℕ) : Type 0 where
  pub divides : All (λ i. u ∣ i.size) intervals
  pub greatest : (v : ℕ) → All (λ i. v ∣ i.size) intervals → v ∣ u
