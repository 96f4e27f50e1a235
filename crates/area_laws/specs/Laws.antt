-- The laws of areas, each the contract of a function.
use Rattle.std.specs.Prelude.{◌≡◌, ℕ, ◌+◌, ◌-◌, ◌*◌, ◌/◌, ◌<◌, ◌≤◌, List, [], ◌∷◌, ◌++◌, length, replicate, sum_by, All}
use Rattle.cache_model.specs.declared.objects.Object.{Object}
use Rattle.cache_model.specs.declared.objects.Objective.TheVariants.{Object as Hits, Bytes}
use Rattle.cache_model.specs.declared.intervals.Interval.{Interval}
use Rattle.cache_model.specs.Claim.{Terms, IsAllowed, score}
use Rattle.cache_model.specs.Intervals.{eligible_intervals, bound_of}
use Rattle.area_laws.specs.Late.{IsAllowedLate}
use Rattle.area_laws.specs.Areas.{length_of, area_of, area_surplus, cache_area, edge_bound, gains_of, areas_of, below_edge}

-- the contents score no more than the bound of the edge, nor than its floor
pub record IsWithinEdgeBound (terms : Terms) (delay edge : ℕ) (trace : List Object) (contents : List (List Object)) : Type 0 where
  pub over_the_edge : edge * score terms trace contents ≤ edge_bound terms delay edge trace
  pub floor : 0 < edge → score terms trace contents ≤ edge_bound terms delay edge trace / edge

-- no contents that are allowed with a delay score more than the bound of any edge with that delay
abbrev pub AreasBoundEveryPolicy : Type 0
AreasBoundEveryPolicy =
    (terms : Terms) (delay edge : ℕ) (trace : List Object) (contents : List (List Object))
    → IsAllowedLate delay terms.capacity trace contents
    → IsWithinEdgeBound terms delay edge trace contents

-- nor more than the gains of all eligible intervals, whatever the delay
abbrev pub GainsBoundEveryPolicy : Type 0
GainsBoundEveryPolicy =
    (terms : Terms) (delay : ℕ) (trace : List Object) (contents : List (List Object))
    → IsAllowedLate delay terms.capacity trace contents
    → score terms trace contents ≤ gains_of (eligible_intervals terms trace)

-- a delay of 0 allows what the rules do, and a longer one all that a shorter one does
pub record DelayAllowsMore (capacity : ℕ) (trace : List Object) (contents : List (List Object)) : Type 0 where
  pub with_any : (delay : ℕ) → IsAllowed capacity trace contents → IsAllowedLate delay capacity trace contents
  pub with_none : IsAllowedLate 0 capacity trace contents → IsAllowed capacity trace contents
  pub with_longer : (delay longer : ℕ) → delay ≤ longer
      → IsAllowedLate delay capacity trace contents → IsAllowedLate longer capacity trace contents

-- what is said above holds of all contents
abbrev pub DelaysAllowMore : Type 0
DelaysAllowMore =
    (capacity : ℕ) (trace : List Object) (contents : List (List Object)) → DelayAllowsMore capacity trace contents

-- in hits the bound counts, beside the area of the cache, what each area lacks to the edge
abbrev pub EdgeInHits : Type 0
EdgeInHits =
    (terms : Terms) (delay edge : ℕ) (trace : List Object)
    → terms.objective ≡ Hits
    → edge_bound terms delay edge trace
    ≡ cache_area terms.capacity trace + sum_by (λ i. edge - area_of delay i) (eligible_intervals terms trace)

-- in bytes what each length lacks to the edge, times the size
abbrev pub EdgeInBytes : Type 0
EdgeInBytes =
    (terms : Terms) (delay edge : ℕ) (trace : List Object)
    → terms.objective ≡ Bytes
    → edge_bound terms delay edge trace
    ≡ cache_area terms.capacity trace + sum_by (λ i. i.size * (edge - length_of delay i)) (eligible_intervals terms trace)

-- without a delay it is the bound of the price 1 for a byte at each step but the last, over the edge as denominator
abbrev pub EdgeIsOnePrice : Type 0
EdgeIsOnePrice =
    (terms : Terms) (edge : ℕ) (first : Object) (later : List Object)
    → edge_bound terms 0 edge (first ∷ later)
    ≡ bound_of (eligible_intervals terms (first ∷ later)) 1 terms.capacity edge (replicate (length later) 1 ++ 0 ∷ [])

-- surpluses follow from sums of gains and of areas: of intervals all below the edge, of those at it or above, and of any
pub record SurplusesByGroups (delay edge : ℕ) (intervals : List Interval) : Type 0 where
  pub all_below : All (λ i. area_of delay i ≤ edge * i.gain) intervals
      → sum_by (area_surplus delay edge) intervals + areas_of delay intervals ≡ edge * gains_of intervals
  pub none_below : All (λ i. edge * i.gain ≤ area_of delay i) intervals → sum_by (area_surplus delay edge) intervals ≡ 0
  pub any : sum_by (area_surplus delay edge) intervals
      ≡ edge * gains_of (below_edge delay edge intervals) - areas_of delay (below_edge delay edge intervals)
  pub areas_within : areas_of delay (below_edge delay edge intervals) ≤ edge * gains_of (below_edge delay edge intervals)

-- what is said above holds of any intervals, so counts and sums of groups of them are enough
abbrev pub GroupsAddUp : Type 0
GroupsAddUp = (delay edge : ℕ) (intervals : List Interval) → SurplusesByGroups delay edge intervals
