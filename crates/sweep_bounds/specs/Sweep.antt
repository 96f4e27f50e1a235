-- What a sweep keeps, and that it has seen a trace.
use Rattle.std.specs.Prelude.{◌≡◌, ℕ, ◌-◌, ◌^◌, ◌<◌, ◌≤◌, Bool, List, [], ◌∷◌, length, slice_index, None, Some}
use Rattle.std.specs.declared.option.Option.{Option}
use Rattle.std.specs.Map.{keys_of, lookup}
use Rattle.cache_model.specs.declared.objects.Object.{Object}
use Rattle.cache_model.specs.declared.objects.Objective.{Objective}
use Rattle.cache_model.specs.declared.objects.Objective.TheVariants.{Object as Hits, Bytes}
use Rattle.cache_model.specs.Claim.{same_object, terms_from}
use Rattle.cache_model.specs.Objects.{IsLatest, IsNew, objects_of}
use Rattle.area_sums.specs.declared.bound.CapacityBounds.{CapacityBounds}
use Rattle.area_sums.specs.declared.bound.EdgeBound.{EdgeBound}
use Rattle.area_sums.specs.Bounds.{at_place}
use Rattle.area_sums.specs.Spans.{Span}
use Rattle.area_sums.specs.Groups.{AreSumsOf, Sums}
use Rattle.sweep_bounds.specs.Bounds.{IsSweepBound}
use Rattle.sweep_bounds.specs.Spans.{spans_of}

-- the warm-up and the delay, how many requests there were, the number of the latest of each object, and the sums of the spans
pub record Sweep : Type 0 where
  pub warmup : ℕ
  pub delay : ℕ
  pub requests : ℕ
  pub latest : List (Object × ℕ)
  pub sums : Sums

-- the number of the latest request of an object, or none if the trace has no request of it
abbrev pub IsLatestOrNew : List Object → Object → Option ℕ → Type 0
IsLatestOrNew trace x None = IsNew trace x
IsLatestOrNew trace x (Some a) = IsLatest trace x a

-- the sweep has seen this trace, with the marks of the requests that only fill: what it keeps is that of the trace
pub record HasSeen (trace : List Object) (fills : List Bool) (sweep : Sweep) : Type 0 where
  pub requests : sweep.requests ≡ length trace
  pub latest : (x : Object) → IsLatestOrNew trace x (lookup (same_object x) sweep.latest)
  pub objects : keys_of sweep.latest ≡ objects_of trace
  pub sums : AreSumsOf (spans_of sweep.warmup sweep.delay fills trace) sweep.sums

-- the bound is that of this objective at the capacity at this place, for whatever trace and marks the sweep has seen
abbrev pub IsBoundAt : Objective → ℕ → Sweep → EdgeBound → Type 0
IsBoundAt objective place sweep bound =
    (trace : List Object) (fills : List Bool) → HasSeen trace fills sweep
    → IsSweepBound (terms_from objective (slice_index sweep.sums.capacities place) sweep.warmup fills) sweep.delay trace bound

-- the bounds at each of the capacities, in their order
pub record AreBoundsOf (sweep : Sweep) (bounds : List CapacityBounds) : Type 0 where
  pub each : length bounds ≡ length sweep.sums.capacities
  pub edges : (place : ℕ) → place < length bounds
      → (0 < (at_place bounds place).hits.edge) × (0 < (at_place bounds place).bytes.edge)
  pub hits : (place : ℕ) → place < length bounds → IsBoundAt Hits place sweep (at_place bounds place).hits
  pub bytes : (place : ℕ) → place < length bounds → IsBoundAt Bytes place sweep (at_place bounds place).bytes

-- no more spans than requests, nor objects, and the requests fit their number
pub record IsWithinRequests (sweep : Sweep) : Type 0 where
  pub few : sweep.requests < 2 ^ 32
  pub spans : sweep.sums.count ≤ sweep.requests
  pub objects : length sweep.latest ≤ sweep.requests

-- how far it is from the latest of its object, less the delay
abbrev pub length_since : ℕ → ℕ → Option ℕ → Option ℕ
length_since delay t None = None
length_since delay t (Some a) = Some (t - a - delay)

-- a span of this size and length, if there is a length
abbrev pub span_if : ℕ → Option ℕ → List Span
span_if size None = []
span_if size (Some n) = record { size = size; length = n } ∷ []
