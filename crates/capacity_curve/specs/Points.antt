-- The points of a curve over capacities: LRU's hits, and the bound of one price.
use Rattle.std.specs.Prelude.{◌≡◌, ℕ, ◌^◌, ◌/◌, ◌≤◌, Bool, List, map, All}
use Rattle.cache_model.specs.declared.objects.Object.{Object}
use Rattle.cache_model.specs.declared.objects.Objective.TheVariants.{Object as Hits, Bytes}
use Rattle.cache_model.specs.Claim.{Terms, IsAllowed, score, terms_from}
use Rattle.cache_rules.specs.Stored.{Requests}
use Rattle.policy_model.specs.declared.names.PolicyName.TheVariants.{Lru}
use Rattle.policy_model.specs.Runs.{policy_run}
use Rattle.interval_maker.specs.Timelines.{timeline_of}
use Rattle.capacity_curve.specs.declared.points.CurveTerms.{CurveTerms}
use Rattle.capacity_curve.specs.declared.points.Point.{Point}
use Rattle.capacity_curve.specs.Bounds.{IsOnePriceBound}

-- a capacity has 1 to 2^56 bytes
abbrev pub IsInRange : ℕ → Type 0
IsInRange capacity = (1 ≤ capacity) × (capacity ≤ 2 ^ 56)

-- the terms at a capacity, of a trace with these marks
abbrev pub terms_at : CurveTerms → ℕ → List Bool → Terms
terms_at asked capacity fills = terms_from asked.objective capacity asked.warmup fills

-- the counts are those of LRU's run at the capacity, and the bound is that of one price; no policy scores more than its floor, nor does LRU
pub record IsPoint (asked : CurveTerms) (trace : Requests) (point : Point) : Type 0 where
  pub hits : point.hits ≡ (policy_run Lru trace.objects point.capacity asked.warmup trace.fills).hits
  pub bytes : point.bytes ≡ (policy_run Lru trace.objects point.capacity asked.warmup trace.fills).bytes
  pub upper : IsOnePriceBound (timeline_of (terms_at asked point.capacity trace.fills) trace.objects) point.capacity asked.denominator point.upper
  pub no_policy_passes_the_floor : (contents : List (List Object)) → IsAllowed point.capacity trace.objects contents
      → score (terms_at asked point.capacity trace.fills) trace.objects contents ≤ point.upper / asked.denominator
  pub hits_within : asked.objective ≡ Hits → point.hits ≤ point.upper / asked.denominator
  pub bytes_within : asked.objective ≡ Bytes → point.bytes ≤ point.upper / asked.denominator

-- the points are at these capacities, in their order
pub record ArePoints (asked : CurveTerms) (trace : Requests) (capacities : List ℕ) (points : List Point) : Type 0 where
  pub at : map (λ point. point.capacity) points ≡ capacities
  pub each : All (IsPoint asked trace) points
