-- The least bound over edges.
use Rattle.std.specs.Prelude.{◌≡◌, ℕ, ◌/◌, ◌<◌, ◌≤◌, ◌⊎◌, ◌==◌, if◌then◌else◌, List, Contains, slice_index_or}
use Rattle.cache_model.specs.declared.objects.Objective.{Objective}
use Rattle.area_sums.specs.declared.bound.CapacityBounds.{CapacityBounds}
use Rattle.area_sums.specs.declared.bound.EdgeBound.{EdgeBound}
use Rattle.area_sums.specs.Short.{IsShortBelow, IsShortAbove}
use Rattle.area_sums.specs.Spans.{Span, cost_of, edge_total, gain_total, within}

-- the bound of an edge, of which edge 1 stands for no price
abbrev pub bound_at : Objective → ℕ → ℕ → List Span → ℕ → EdgeBound
bound_at objective capacity steps spans edge = record {
  upper = if edge == 1 then gain_total objective capacity spans else edge_total objective capacity steps spans edge;
  edge = edge;
}

-- the greatest whole number that is not above a bound
abbrev pub floor_of : EdgeBound → ℕ
floor_of bound = bound.upper / bound.edge

-- the edge is above 1, and next to the cost of a span: the greatest short number not above it, or the least above it
pub record IsNextTo (objective : Objective) (edge : ℕ) (s : Span) : Type 0 where
  pub above_one : 1 < edge
  pub next : IsShortBelow edge (cost_of objective s) ⊎ IsShortAbove edge (cost_of objective s)

-- the edge is tried: it is 1, or next to the cost of a span within the capacity
abbrev pub IsTried : Objective → ℕ → List Span → ℕ → Type 0
IsTried objective capacity spans edge =
    (edge ≡ 1) ⊎ ((s : Span) × (Contains (within capacity spans) s × IsNextTo objective edge s))

-- a bound is no worse than another: its floor is less, or the floors are equal and its edge is not greater
pub record IsNoWorse (bound other : EdgeBound) : Type 0 where
  pub floor : floor_of bound ≤ floor_of other
  pub edge : floor_of bound ≡ floor_of other → bound.edge ≤ other.edge

-- the least bound at a capacity: that of an edge that is tried, and no worse than that of any other
pub record IsLeastBound (objective : Objective) (capacity steps : ℕ) (spans : List Span) (bound : EdgeBound)
    : Type 0 where
  pub tried : IsTried objective capacity spans bound.edge
  pub is_bound : bound ≡ bound_at objective capacity steps spans bound.edge
  pub least : (edge : ℕ) → IsTried objective capacity spans edge
      → IsNoWorse bound (bound_at objective capacity steps spans edge)

-- the bounds at a place of a list
abbrev pub at_place : List CapacityBounds → ℕ → CapacityBounds
at_place bounds place =
    slice_index_or bounds place (record { hits = record { upper = 0; edge = 0 }; bytes = record { upper = 0; edge = 0 } })
