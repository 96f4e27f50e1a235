-- How pages of groups are numbered.
use Rattle.std.specs.Prelude.{◌≡◌, ℕ, ◌+◌, ◌*◌, ◌%◌, ◌^◌, ◌<◌, ◌≤◌, List, length, slice_index}
use Rattle.area_sums.specs.declared.group.Group.{Group}
use Rattle.area_sums.specs.Groups.{group_at, no_group}

-- how many successive classes a page has
abbrev pub page_size : ℕ
page_size = 64

-- each place has a number for each page of classes that there are so far: that of a page, of its own, or 0, that of an empty page
pub record ArePages (places rows : ℕ) (numbers : List ℕ) (groups : List Group) : Type 0 where
  pub few : rows ≤ 2 ^ 26
  pub each : length numbers ≡ rows * places
  pub whole : length groups % page_size ≡ 0
  pub within : (k : ℕ) → slice_index numbers k * page_size + page_size ≤ length groups
  pub apart : (j k : ℕ) → 0 < slice_index numbers j → slice_index numbers j ≡ slice_index numbers k → j ≡ k
  pub none : (k : ℕ) → k < page_size → group_at groups k ≡ no_group
