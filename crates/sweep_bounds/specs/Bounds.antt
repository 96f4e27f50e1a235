-- The bound that a sweep tells at a capacity, in words of the trace.
use Rattle.std.specs.Prelude.{◌≡◌, ℕ, ◌<◌, ◌≤◌, ◌⊎◌, ◌==◌, if◌then◌else◌, List, Contains}
use Rattle.cache_model.specs.declared.objects.Object.{Object}
use Rattle.cache_model.specs.declared.objects.Objective.{Objective}
use Rattle.cache_model.specs.declared.objects.Objective.TheVariants.{Object as Hits, Bytes}
use Rattle.cache_model.specs.declared.intervals.Interval.{Interval}
use Rattle.cache_model.specs.Claim.{Terms, score}
use Rattle.cache_model.specs.Intervals.{eligible_intervals}
use Rattle.area_laws.specs.Late.{IsAllowedLate}
use Rattle.area_laws.specs.Areas.{area_of, edge_bound, gains_of, length_of}
use Rattle.area_sums.specs.declared.bound.EdgeBound.{EdgeBound}
use Rattle.area_sums.specs.Short.{IsShortAbove, IsShortBelow}
use Rattle.area_sums.specs.Bounds.{IsNoWorse, floor_of}

-- the bound of an edge over a trace, where edge 1 stands for no price: what all eligible intervals gain
abbrev pub bound_over : Terms → ℕ → List Object → ℕ → EdgeBound
bound_over terms delay trace edge = record {
  upper = if edge == 1 then gains_of (eligible_intervals terms trace) else edge_bound terms delay edge trace;
  edge = edge;
}

-- what a hit costs for each unit that it gains: the area of its interval, or for bytes the length
abbrev pub cost_of : Objective → ℕ → Interval → ℕ
cost_of Hits delay i = area_of delay i
cost_of Bytes delay i = length_of delay i

-- the edge is above 1, and next to a cost: the greatest short number not above it, or the least above it
pub record IsNextTo (edge cost : ℕ) : Type 0 where
  pub above_one : 1 < edge
  pub next : IsShortBelow edge cost ⊎ IsShortAbove edge cost

-- the edge is tried: it is 1, or next to the cost of an eligible interval
abbrev pub IsTried : Terms → ℕ → List Object → ℕ → Type 0
IsTried terms delay trace edge =
    (edge ≡ 1)
    ⊎ ((i : Interval) × (Contains (eligible_intervals terms trace) i × IsNextTo edge (cost_of terms.objective delay i)))

-- no contents that are allowed with the delay score more than the floor of the bound, which is the least of all edges that are tried
pub record IsSweepBound (terms : Terms) (delay : ℕ) (trace : List Object) (bound : EdgeBound) : Type 0 where
  pub no_more : (contents : List (List Object)) → IsAllowedLate delay terms.capacity trace contents
      → score terms trace contents ≤ floor_of bound
  pub tried : IsTried terms delay trace bound.edge
  pub is_bound : bound ≡ bound_over terms delay trace bound.edge
  pub least : (edge : ℕ) → IsTried terms delay trace edge → IsNoWorse bound (bound_over terms delay trace edge)
