-- The sums that are kept: spans in groups, by the first capacity that holds the object and by the class of the cost.
use Rattle.std.specs.Prelude.{◌≡◌, ℕ, ◌+◌, ◌-◌, ◌*◌, ◌^◌, ◌<◌, ◌≤◌, ◌==◌, nat_lt, ◌&&◌, ◌⊎◌, if◌then◌else◌, List, [], length, take, slice_index, slice_index_or, All, count_by, filter, map, sum_by}
use Rattle.std.specs.List.{range_with_len}
use Rattle.std.specs.List.Sorted.{IsStrictlyIncreasing}
use Rattle.cache_model.specs.declared.objects.Objective.{Objective}
use Rattle.cache_model.specs.declared.objects.Objective.TheVariants.{Object as Hits, Bytes}
use Rattle.area_sums.specs.declared.group.Group.{Group}
use Rattle.area_sums.specs.declared.bound.CapacityBounds.{CapacityBounds}
use Rattle.area_sums.specs.declared.bound.EdgeBound.{EdgeBound}
use Rattle.area_sums.specs.Short.{class_of, short_at}
use Rattle.area_sums.specs.Bounds.{IsLeastBound, IsNoWorse, at_place}
use Rattle.area_sums.specs.Spans.{Span, area_of, cost_of, gain_of}

-- the first of the ascending capacities that holds an object of a size, or how many there are if none does
abbrev pub place_of : List ℕ → ℕ → ℕ
place_of capacities size = count_by (λ capacity. nat_lt capacity size) capacities

-- the group of no span
abbrev pub no_group : Group
no_group = record { gain = 0; area = 0 }

-- two groups as one
abbrev pub both : Group → Group → Group
both a b = record { gain = a.gain + b.gain; area = a.area + b.area }

-- the group of a class
abbrev pub group_at : List Group → ℕ → Group
group_at groups class = slice_index_or groups class no_group

-- how many classes areas have: the short number at this place is 2^80
abbrev pub area_classes : ℕ
area_classes = 143360

-- and lengths, which are below 2^32
abbrev pub length_classes : ℕ
length_classes = 45056

-- the group of a place and a class, in a row for each place
abbrev pub groups_of : List (List Group) → ℕ → ℕ → Group
groups_of rows place class = group_at (slice_index_or rows place []) class

-- a row for each of so many places, of the groups of all classes
unfoldable pub rows_of : ℕ → (ℕ → ℕ → Group) → List (List Group)
rows_of places groups = map (λ place. map (groups place) (range_with_len 0 area_classes)) (range_with_len 0 places)

-- the groups of places and classes, with more in one of them
abbrev pub with_more : (ℕ → ℕ → Group) → ℕ → ℕ → Group → ℕ → ℕ → Group
with_more groups place class more p c =
    if (class == c) && (place == p) then both (groups p c) more else groups p c

-- the spans of a place and of a class
abbrev pub spans_at : Objective → List ℕ → ℕ → ℕ → List Span → List Span
spans_at objective capacities place class spans =
    filter (λ s. (class_of (cost_of objective s) == class) && (place_of capacities s.size == place)) spans

-- the gains and the areas of spans, summed
abbrev pub group_of : Objective → List Span → Group
group_of objective spans = record { gain = sum_by (gain_of objective) spans; area = sum_by area_of spans }

-- the groups are those of the spans, at the place of each capacity and at each class
pub record AreGroupsOf (objective : Objective) (capacities : List ℕ) (spans : List Span) (groups : ℕ → ℕ → Group)
    : Type 0 where
  pub each : (place class : ℕ) → place < length capacities
      → groups place class ≡ group_of objective (spans_at objective capacities place class spans)

-- what is kept: the capacities, how many spans there were, and their groups for each objective, a row for each capacity
pub record Sums : Type 0 where
  pub capacities : List ℕ
  pub count : ℕ
  pub hits : List (List Group)
  pub bytes : List (List Group)

-- of no span
abbrev pub no_sums : List ℕ → Sums
no_sums capacities = record {
  capacities = capacities;
  count = 0;
  hits = rows_of (length capacities) (λ place class. no_group);
  bytes = rows_of (length capacities) (λ place class. no_group);
}

-- the sums are those of these spans
pub record AreSumsOf (spans : List Span) (sums : Sums) : Type 0 where
  pub count : sums.count ≡ length spans
  pub sizes : All (λ s. 0 < s.size) spans
  pub hits : AreGroupsOf Hits sums.capacities spans (groups_of sums.hits)
  pub bytes : AreGroupsOf Bytes sums.capacities spans (groups_of sums.bytes)

-- the bound is the least at the capacity of a place, of whatever spans the sums are
abbrev pub IsLeastBoundAt : Objective → ℕ → Sums → ℕ → EdgeBound → Type 0
IsLeastBoundAt objective place sums steps bound =
    (spans : List Span) → AreSumsOf spans sums
    → IsLeastBound objective (slice_index sums.capacities place) steps spans bound

-- the least bounds at each of the capacities
pub record AreLeastBounds (sums : Sums) (steps : ℕ) (bounds : List CapacityBounds) : Type 0 where
  pub each : length bounds ≡ length sums.capacities
  pub edges : (place : ℕ) → place < length bounds
      → (0 < (at_place bounds place).hits.edge) × (0 < (at_place bounds place).bytes.edge)
  pub hits : (place : ℕ) → place < length bounds → IsLeastBoundAt Hits place sums steps (at_place bounds place).hits
  pub bytes : (place : ℕ) → place < length bounds → IsLeastBoundAt Bytes place sums steps (at_place bounds place).bytes

-- the capacities are strictly ascending, and at most 2^56
pub record AreCapacities (capacities : List ℕ) : Type 0 where
  pub ascending : IsStrictlyIncreasing capacities
  pub limit : All (λ capacity. capacity ≤ 2 ^ 56) capacities

-- how many classes costs have
abbrev pub classes_for : Objective → ℕ
classes_for Hits = area_classes
classes_for Bytes = length_classes

-- a span in the ranges of what is told
pub record IsInRange (s : Span) : Type 0 where
  pub size : s.size ≤ 2 ^ 48
  pub length : s.length < 2 ^ 32

-- the sums are those of some spans, which are in these ranges
pub record AreSums (sums : Sums) : Type 0 where
  pub capacities : AreCapacities sums.capacities
  pub count : sums.count < 2 ^ 32
  pub spans : List Span
  pub ranges : All IsInRange spans
  pub are : AreSumsOf spans sums

-- the gains, and the areas, of the classes below one
abbrev pub gain_below : List Group → ℕ → ℕ
gain_below groups class = sum_by (λ g. g.gain) (take class groups)

abbrev pub area_below : List Group → ℕ → ℕ
area_below groups class = sum_by (λ g. g.area) (take class groups)

-- both of them
abbrev pub group_below : List Group → ℕ → Group
group_below groups class = record { gain = gain_below groups class; area = area_below groups class }

-- the bound of the edge at a class: the area of the cache, with what the groups below it lack to the edge
abbrev pub bound_over : ℕ → Group → ℕ → EdgeBound
bound_over area below class = record { upper = area + short_at class * below.gain - below.area; edge = short_at class }

-- the bound without a price
abbrev pub gain_bound : List Group → EdgeBound
gain_bound groups = record { upper = sum_by (λ g. g.gain) groups; edge = 1 }

-- the edge of a class is tried: it is above 1, and stands at one of the first classes that have a span, or after it
pub record IsTriedClass (groups : List Group) (first class : ℕ) : Type 0 where
  pub above_one : 1 < class
  pub of : ℕ
  pub early : of < first
  pub some : 0 < (group_at groups of).gain
  pub next : (class ≡ of) ⊎ (class ≡ of + 1)

-- the least of the bound without a price and of those that are tried at the first classes
pub record IsLeastOf (area : ℕ) (groups : List Group) (first : ℕ) (bound : EdgeBound) : Type 0 where
  pub is_one : (bound ≡ gain_bound groups)
      ⊎ ((class : ℕ) × (IsTriedClass groups first class × (bound ≡ bound_over area (group_below groups class) class)))
  pub no_price : IsNoWorse bound (gain_bound groups)
  pub least : (class : ℕ) → IsTriedClass groups first class
      → IsNoWorse bound (bound_over area (group_below groups class) class)

-- the area of each class is no more than that of its gain at the edge after it
abbrev pub AreCheap : List Group → Type 0
AreCheap groups =
    (class : ℕ) → class < length groups
    → (group_at groups class).area ≤ (group_at groups class).gain * short_at (class + 1)
