-- Blocks of steps, and prices that are settled for them.
use Rattle.std.specs.Prelude.{◌≡◌, ℕ, ◌+◌, ◌-◌, ◌*◌, ◌/◌, ◌<◌, ◌≤◌, List, length, min, slice_index}
use Rattle.cache_model.specs.declared.intervals.Interval.{Interval}
use Rattle.cache_model.specs.Intervals.{bound_of}

-- the first step of block k, from 0: block 0 begins at step 0 and has half a width of steps, and each later block has a width of them
abbrev pub block_start : ℕ → ℕ → ℕ
block_start width k = width / 2 + width * k - width

-- the step after the last one of block k; no block has the last step of all
abbrev pub block_end : ℕ → ℕ → ℕ → ℕ
block_end steps width k = min (width / 2 + width * k) (steps - 1)

-- prices that differ at most at the steps from the first to before the end
pub record AgreeOutside (first end : ℕ) (prices others : List ℕ) : Type 0 where
  pub steps : length others ≡ length prices
  pub before : (t : ℕ) → t < first → slice_index others t ≡ slice_index prices t
  pub after : (t : ℕ) → end ≤ t → slice_index others t ≡ slice_index prices t

-- no other prices of the steps of one block give a smaller bound, with the prices outside as they are
abbrev pub AreSettled : List Interval → ℕ → ℕ → ℕ → ℕ → List ℕ → Type 0
AreSettled intervals unit units denominator width prices =
    (k : ℕ) (others : List ℕ)
    → AgreeOutside (block_start width k) (block_end (length prices) width k) prices others
    → bound_of intervals unit units denominator prices ≤ bound_of intervals unit units denominator others
