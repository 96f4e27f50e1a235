-- Fractional schedules: a flow for each interval, within its weight and within the units of each step.
use Rattle.std.specs.Prelude.{ℕ, ◌*◌, ◌/◌, ◌≤◌, Bool, ◌&&◌, nat_lt, nat_le, if◌then◌else◌, List, sum_by, zip}
use Rattle.std.specs.List.{AllZip}
use Rattle.cache_model.specs.declared.intervals.Interval.{Interval}
use Rattle.cache_model.specs.Units.{weight}

-- the step t is one of those from the interval's start to before its end
abbrev pub covers : ℕ → Interval → Bool
covers t i = nat_le i.start t && nat_lt t i.end

-- the amounts of the intervals over step t, summed
abbrev pub load_at : List Interval → List ℕ → ℕ → ℕ
load_at intervals amounts t = sum_by (λ (i, amount). if covers t i then amount else 0) (zip intervals amounts)

-- one flow for each interval, at most its weight, and the flows over each step are within the units
pub record IsFractionalSchedule (intervals : List Interval) (unit units : ℕ) (flows : List ℕ) : Type 0 where
  pub within_weights : AllZip (λ i f. f ≤ weight unit i) intervals flows
  pub within_units : (t : ℕ) → load_at intervals flows t ≤ units

-- the value of the flows, over the denominator, each unit's gain rounded down
abbrev pub flow_value : List Interval → ℕ → ℕ → List ℕ → ℕ
flow_value intervals unit denominator flows =
    sum_by (λ (i, f). (denominator * i.gain / weight unit i) * f) (zip intervals flows)
