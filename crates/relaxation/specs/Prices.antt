-- Prices with the sums up to each step.
use Rattle.std.specs.Prelude.{◌≡◌, ℕ, ◌+◌, ◌-◌, ◌*◌, ◌^◌, ◌<◌, ◌≤◌, List, length, map, slice_index, take, sum}
use Rattle.std.specs.List.{range_with_len}

-- the units of the cache, and the price of each step
pub record Priced : Type 0 where
  pub units : ℕ
  pub prices : List ℕ

-- what the units pay for all steps may not pass this
abbrev pub most_paid : ℕ
most_paid = 2 ^ 126

-- what the units pay for the steps from the first through step t
abbrev pub paid_through : ℕ → List ℕ → ℕ → ℕ
paid_through units prices t = units * sum (take (t + 1) prices)

-- through step t the units pay too much, and through no step before it
pub record IsFirstPast (units : ℕ) (prices : List ℕ) (t : ℕ) : Type 0 where
  pub within : t < length prices
  pub past : most_paid < paid_through units prices t
  pub none_before : (s : ℕ) → s < t → paid_through units prices s ≤ most_paid

-- by how much each number but the first is above the one before it
abbrev pub rises_of : List ℕ → List ℕ
rises_of sums = map (λ t. slice_index sums (t + 1) - slice_index sums t) (range_with_len 0 (length sums - 1))

-- before each step, and after the last, stands the sum of the prices so far
pub record AreSums (prices sums : List ℕ) : Type 0 where
  pub one_more : length sums ≡ length prices + 1
  pub each : (t : ℕ) → t ≤ length prices → slice_index sums t ≡ sum (take t prices)
