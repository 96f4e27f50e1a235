-- Loads in levels: each value of a level stands for a group of 16 values of the level below. The levels stand one after another, the lowest one first.
use Rattle.std.specs.Prelude.{◌≡◌, ℕ, zero, suc, ◌+◌, ◌-◌, ◌*◌, ◌/◌, ◌<◌, ◌≤◌, List, length, slice_index, min, max, map}
use Rattle.std.specs.List.{range_with_len}

-- the greatest of that number of values from a place on, and 0 of none
abbrev pub greatest : List ℕ → ℕ → ℕ → ℕ
greatest values from zero = 0
greatest values from (suc count) = max (greatest values from count) (slice_index values (from + count))

-- how many groups a level of that number of values has
abbrev pub groups_of : ℕ → ℕ
groups_of count = (count + 15) / 16

-- how many values a level of that number of values and that number of levels above it have
abbrev pub places_of : ℕ → ℕ → ℕ
places_of zero count = count
places_of (suc height) count = count + places_of height (groups_of count)

-- how many values the highest of these levels has
abbrev pub top_of : ℕ → ℕ → ℕ
top_of zero count = count
top_of (suc height) count = top_of height (groups_of count)

-- the greatest value of a group of the level of that number of values from `start` on
abbrev pub most_of_group : List ℕ → ℕ → ℕ → ℕ → ℕ
most_of_group values start count group = greatest values (start + 16 * group) (min (16 * group + 16) count - 16 * group)

-- the load at a place of the level that has that number of levels above it: its value, and by what the load of its group is greater than the greatest value there
abbrev pub load_at : ℕ → ℕ → ℕ → List ℕ → ℕ → ℕ
load_at zero start count values place = slice_index values (start + place)
load_at (suc height) start count values place = slice_index values (start + place) + (load_at height (start + count) (groups_of count) values (place / 16) - most_of_group values start count (place / 16))

-- no value is less than the greatest of its group, and the highest level has one group
abbrev pub IsLevels : ℕ → ℕ → ℕ → List ℕ → Type 0
IsLevels zero start count values = (start + count ≡ length values) × (count ≤ 16)
IsLevels (suc height) start count values =
    ((g : ℕ) → 16 * g < count → most_of_group values start count g ≤ slice_index values (start + count + g))
    × IsLevels height (start + count) (groups_of count) values

-- the loads of that number of steps
abbrev pub loads_in : ℕ → ℕ → List ℕ → List ℕ
loads_in height steps values = map (load_at height 0 steps values) (range_with_len 0 steps)

-- the load of one of the lowest and the highest place rises by its own amount, those between by another, and the others stay
pub record RisesBy (old new : ℕ → ℕ) (count low low_by high high_by between : ℕ) : Type 0 where
  pub at_low : new low ≡ old low + low_by
  pub at_high : low < high → new high ≡ old high + high_by
  pub inside : (t : ℕ) → low < t → t < high → new t ≡ old t + between
  pub before : (t : ℕ) → t < low → new t ≡ old t
  pub after : (t : ℕ) → high < t → t < count → new t ≡ old t

-- so do the loads of a level, and the values at the two places; no value falls, and those of lower levels stay
pub record IsRaised (height start count : ℕ) (old new : List ℕ) (low low_by high high_by between : ℕ) : Type 0 where
  pub same_length : length new ≡ length old
  pub levels : IsLevels height start count new
  pub loads : RisesBy (load_at height start count old) (load_at height start count new) count low low_by high high_by between
  pub low_value : slice_index new (start + low) ≡ slice_index old (start + low) + low_by
  pub high_value : low < high → slice_index new (start + high) ≡ slice_index old (start + high) + high_by
  pub grown : (p : ℕ) → slice_index old p ≤ slice_index new p
  pub below : (p : ℕ) → p < start → slice_index new p ≡ slice_index old p

-- the values of a level rise so in the groups of the two places, and the others stay
pub record EndsRise (start : ℕ) (old new : List ℕ) (low low_by high high_by between : ℕ) : Type 0 where
  pub same_length : length new ≡ length old
  pub at_low : slice_index new (start + low) ≡ slice_index old (start + low) + low_by
  pub at_high : low < high → slice_index new (start + high) ≡ slice_index old (start + high) + high_by
  pub left : (t : ℕ) → low < t → t < high → t / 16 ≡ low / 16 → slice_index new (start + t) ≡ slice_index old (start + t) + between
  pub right : (t : ℕ) → low < t → t < high → t / 16 ≡ high / 16 → slice_index new (start + t) ≡ slice_index old (start + t) + between
  pub inner : (t : ℕ) → low / 16 < t / 16 → t / 16 < high / 16 → slice_index new (start + t) ≡ slice_index old (start + t)
  pub before : (p : ℕ) → p < start + low → slice_index new p ≡ slice_index old p
  pub after : (p : ℕ) → start + high < p → slice_index new p ≡ slice_index old p
