-- Numbers in lists, one list for each key.
use Rattle.std.specs.Prelude.{◌≡◌, ℕ, ◌<◌, ◌≤◌, ◌^◌, ◌==◌, List, length, filter, slice_index, All}
use Rattle.std.specs.List.{range_with_len}
use Rattle.flow_windows.specs.Cuts.{IsListed}

-- the numbers that have the key, in order
abbrev pub numbers_with : List ℕ → ℕ → List ℕ
numbers_with keys key = filter (λ i. slice_index keys i == key) (range_with_len 0 (length keys))

-- for each key the first of its numbers, and for each number the next that has its key; what stands at an end is past all numbers
pub record AreLinked (keys first next : List ℕ) : Type 0 where
  pub each_number : length next ≡ length keys
  pub few : length keys ≤ 2 ^ 26
  pub within : All (λ key. key < length first) keys
  pub each_key : (key : ℕ) → key < length first → IsListed (length keys) next (slice_index first key) (numbers_with keys key)
