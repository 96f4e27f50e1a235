-- Groups of classes, as they are added up from place to place.
use Rattle.std.specs.Prelude.{◌≡◌, ℕ, zero, suc, ◌+◌, ◌*◌, ◌^◌, ◌<◌, ◌≤◌, List, length, slice_index, slice_index_or, All, map, zip}
use Rattle.cache_model.specs.declared.objects.Objective.{Objective}
use Rattle.area_sums.specs.declared.group.Group.{Group}
use Rattle.area_sums.specs.declared.bound.CapacityBounds.{CapacityBounds}
use Rattle.area_sums.specs.declared.bound.EdgeBound.{EdgeBound}
use Rattle.area_sums.specs.Spans.{Span}
use Rattle.area_sums.specs.Bounds.{IsLeastBound}
use Rattle.area_sums.specs.PageLayout.{page_size}
use Rattle.area_sums.specs.Groups.{AreGroupsOf, IsInRange, both, classes_for, group_at, no_group}

-- the groups of a class at the places before one, as one
abbrev pub group_before : (ℕ → ℕ → Group) → ℕ → ℕ → Group
group_before groups class zero = no_group
group_before groups class (suc place) = both (group_before groups class place) (groups place class)

-- there is room for more in each class
pub record HasRoomFor (more : ℕ → Group) (classes : List Group) : Type 0 where
  pub gain : (class : ℕ) → class < length classes → (group_at classes class).gain + (more class).gain < 2 ^ 128
  pub area : (class : ℕ) → class < length classes → (group_at classes class).area + (more class).area < 2 ^ 128

-- there is room for more in each class of a row
pub record HasRoomInRow (more : ℕ → Group) (row : ℕ) (classes : List Group) : Type 0 where
  pub gain : (class : ℕ) → row * page_size ≤ class → class < row * page_size + page_size → (group_at classes class).gain + (more class).gain < 2 ^ 128
  pub area : (class : ℕ) → row * page_size ≤ class → class < row * page_size + page_size → (group_at classes class).area + (more class).area < 2 ^ 128

-- the classes of a row have more, and no other has changed
pub record HasMoreInRow (more : ℕ → Group) (row : ℕ) (old new : List Group) : Type 0 where
  pub added : (class : ℕ) → row * page_size ≤ class → class < row * page_size + page_size → group_at new class ≡ both (group_at old class) (more class)
  pub before : (class : ℕ) → class < row * page_size → group_at new class ≡ group_at old class
  pub after : (class : ℕ) → row * page_size + page_size ≤ class → group_at new class ≡ group_at old class

-- each class has its groups of the places before this one
pub record AreBefore (place : ℕ) (groups : ℕ → ℕ → Group) (classes : List Group) : Type 0 where
  pub each : (class : ℕ) → class < length classes → group_at classes class ≡ group_before groups class place

-- the groups are those of fewer than 2^32 spans in the ranges of what is told, and of their classes
pub record AreOfSpans (capacities : List ℕ) (classes : ℕ) (groups : ℕ → ℕ → Group) : Type 0 where
  pub objective : Objective
  pub spans : List Span
  pub few : length spans < 2 ^ 32
  pub ranges : All IsInRange spans
  pub are : AreGroupsOf objective capacities spans groups
  pub within : classes ≤ classes_for objective
  pub none_above : (place class : ℕ) → classes ≤ class → groups place class ≡ no_group

-- the bound at a place of a list
abbrev pub edge_bound_at : List EdgeBound → ℕ → EdgeBound
edge_bound_at bounds place = slice_index_or bounds place (record { upper = 0; edge = 0 })

-- the least bounds at the first so many places, of whatever spans the groups are, where areas are over this number of steps
pub record AreLeastBefore (places steps : ℕ) (capacities : List ℕ) (groups : ℕ → ℕ → Group) (bounds : List EdgeBound)
    : Type 0 where
  pub each : length bounds ≡ places
  pub edges : (place : ℕ) → place < places → 0 < (edge_bound_at bounds place).edge
  pub least : (objective : Objective) (spans : List Span) → All (λ s. 0 < s.size) spans
      → AreGroupsOf objective capacities spans groups → (place : ℕ) → place < places
      → IsLeastBound objective (slice_index capacities place) steps spans (edge_bound_at bounds place)

-- the bounds of hits and of bytes, capacity by capacity
abbrev pub pairs : List EdgeBound → List EdgeBound → List CapacityBounds
pairs hits bytes = map (λ p. record { hits = p.0; bytes = p.1 }) (zip hits bytes)
