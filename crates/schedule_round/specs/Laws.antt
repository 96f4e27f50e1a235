-- The intervals with full flows, and what rounding comes to if all sizes are equal.
use Rattle.std.specs.Prelude.{◌≡◌, ℕ, ◌*◌, ◌/◌, ◌<◌, ◌≤◌, Bool, ◌==◌, List, length, map, zip, All}
use Prim.Native.Nat.{◌∣◌}
use Rattle.cache_model.specs.declared.objects.Object.{Object}
use Rattle.cache_model.specs.declared.intervals.Interval.{Interval}
use Rattle.cache_model.specs.Intervals.{eligible_intervals, bound_of}
use Rattle.cache_model.specs.Claim.{Terms, IsAllowed, score, contents_of}
use Rattle.cache_model.specs.Rounding.{IsRounded, FitTogether}
use Rattle.cache_model.specs.Schedules.{IsFractionalSchedule, flow_value}
use Rattle.cache_model.specs.Units.{IsUnit, HasWholeCosts, weight}

-- an interval is flagged where its flow is its whole weight
abbrev pub full_flags : ℕ → List Interval → List ℕ → List Bool
full_flags unit intervals flows = map (λ (i, flow). flow == weight unit i) (zip intervals flows)

-- of a fractional schedule the intervals with full flows fit together
abbrev pub FullFlagsFit : Type 0
FullFlagsFit =
    (intervals : List Interval) (capacity unit : ℕ) (flows : List ℕ)
    → All (λ i. unit ∣ i.size) intervals
    → IsFractionalSchedule intervals unit (capacity / unit) flows
    → FitTogether intervals capacity (full_flags unit intervals flows)

-- if all intervals have one size, no cost is rounded, whatever the denominator
abbrev pub EqualSizesAreWhole : Type 0
EqualSizesAreWhole =
    (intervals : List Interval) (size unit denominator : ℕ)
    → 0 < size
    → All (λ i. i.size ≡ size) intervals
    → IsUnit intervals unit
    → HasWholeCosts intervals unit denominator

-- the keeps score the whole bound, over the denominator; if that is above 0, no allowed contents score more than they do
pub record IsBestSchedule (terms : Terms) (trace : List Object) (denominator bound : ℕ) (keeps : List Bool) : Type 0 where
  pub equal : bound ≡ denominator * score terms trace (contents_of trace keeps)
  pub best : 0 < denominator → (contents : List (List Object)) → IsAllowed terms.capacity trace contents → score terms trace contents ≤ score terms trace (contents_of trace keeps)

-- if all eligible intervals have one size and flows are worth the bound of prices, the keeps that are rounded from the full flows are a best schedule
abbrev pub EqualSizesMeetTheBound : Type 0
EqualSizesMeetTheBound =
    (terms : Terms) (trace : List Object) (size unit denominator : ℕ) (prices flows : List ℕ) (ahead : Interval → Interval → Bool) (keeps : List Bool)
    → All (λ i. i.size ≡ size) (eligible_intervals terms trace)
    → IsUnit (eligible_intervals terms trace) unit
    → length prices ≡ length trace
    → IsFractionalSchedule (eligible_intervals terms trace) unit (terms.capacity / unit) flows
    → bound_of (eligible_intervals terms trace) unit (terms.capacity / unit) denominator prices ≡ flow_value (eligible_intervals terms trace) unit denominator flows
    → IsRounded ahead (eligible_intervals terms trace) terms.capacity (length trace) (full_flags unit (eligible_intervals terms trace) flows) keeps
    → IsAllowed terms.capacity trace (contents_of trace keeps)
    → IsBestSchedule terms trace denominator (bound_of (eligible_intervals terms trace) unit (terms.capacity / unit) denominator prices) keeps
