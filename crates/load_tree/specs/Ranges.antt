-- What is added to a range of steps, and the greatest load of one, if the loads stand in order of the steps.
use Rattle.std.specs.Prelude.{◌≡◌, ℕ, ◌+◌, ◌<◌, ◌≤◌, ◌^◌, List, length, slice_index}

-- no load from step `from` to the one before `to` passes 2^100 by the amount
abbrev pub HasRoom : List ℕ → ℕ → ℕ → ℕ → Type 0
HasRoom loads from to amount = (t : ℕ) → from ≤ t → t < to → slice_index loads t + amount ≤ 2 ^ 100

-- no load from step `from` to the one before `to` reaches 2^64 by the amount
abbrev pub HasSmallRoom : List ℕ → ℕ → ℕ → ℕ → Type 0
HasSmallRoom loads from to amount = (t : ℕ) → from ≤ t → t < to → slice_index loads t + amount < 2 ^ 64

-- each step from `from` to the one before `to` carries `amount` more, and the others are as they were
pub record AddsOver (old new : List ℕ) (from to amount : ℕ) : Type 0 where
  pub steps : length new ≡ length old
  pub covered : (t : ℕ) → from ≤ t → t < to → slice_index new t ≡ slice_index old t + amount
  pub before : (t : ℕ) → t < from → slice_index new t ≡ slice_index old t
  pub after : (t : ℕ) → to ≤ t → slice_index new t ≡ slice_index old t

-- some step from `from` to the one before `to` has the load, and none there has a greater one
pub record IsGreatest (loads : List ℕ) (from to load : ℕ) : Type 0 where
  pub reached : (t : ℕ) × (from ≤ t) × (t < to) × (slice_index loads t ≡ load)
  pub none_above : (t : ℕ) → from ≤ t → t < to → slice_index loads t ≤ load

-- each load from step `from` to the one before `to` is within the room
abbrev pub AreWithin : List ℕ → ℕ → ℕ → ℕ → Type 0
AreWithin loads from to room = (t : ℕ) → from ≤ t → t < to → slice_index loads t ≤ room
