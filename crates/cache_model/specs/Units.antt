-- Units: sizes as weights, costs, and the denominators at which no cost is rounded.
use Rattle.std.specs.Prelude.{◌≡◌, ◌≢◌, ℕ, ◌*◌, ◌/◌, ◌<◌, List, [], All}
use Rattle.std.specs.Int.{IsGcd, div_ceil}
use Prim.Native.Nat.{◌∣◌}
use Rattle.cache_model.specs.declared.intervals.Interval.{Interval}

-- u is the greatest common divisor of the sizes, or 1 if there is none
pub record IsUnit (intervals : List Interval) (u : ℕ) : Type 0 where
  pub one_if_none : intervals ≡ [] → u ≡ 1
  pub divides : All (λ i. u ∣ i.size) intervals
  pub greatest : intervals ≢ [] → (v : ℕ) → All (λ i. v ∣ i.size) intervals → v ∣ u

-- the size of an interval in units, rounded down
abbrev pub weight : ℕ → Interval → ℕ
weight unit i = i.size / unit

-- the gain of one unit of weight, over the denominator, rounded up
abbrev pub cost : ℕ → ℕ → Interval → ℕ
cost unit denominator i = div_ceil (denominator * i.gain) (weight unit i)

-- no cost is rounded
abbrev pub HasWholeCosts : List Interval → ℕ → ℕ → Type 0
HasWholeCosts intervals unit denominator = All (λ i. weight unit i ∣ denominator * i.gain) intervals

-- no cost is rounded at the denominator, and it divides every other one if none is
pub record IsLeastWhole (intervals : List Interval) (unit denominator : ℕ) : Type 0 where
  pub positive : 0 < denominator
  pub whole : HasWholeCosts intervals unit denominator
  pub multiples : (d : ℕ) → HasWholeCosts intervals unit d → denominator ∣ d

-- the number is a multiple of each, and divides every other such multiple
pub record IsLeastCommonMultiple (numbers : List ℕ) (multiple : ℕ) : Type 0 where
  pub positive : 0 < multiple
  pub of_each : All (λ n. n ∣ multiple) numbers
  pub least : (m : ℕ) → All (λ n. n ∣ m) numbers → multiple ∣ m

-- the number is the interval's weight over the greatest common divisor of its weight and gain
abbrev pub IsReducedWeight : ℕ → Interval → ℕ → Type 0
IsReducedWeight unit i n = (g : ℕ) × IsGcd (weight unit i) i.gain g × (n ≡ weight unit i / g)
