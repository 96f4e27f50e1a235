-- Intervals over the steps of a trace.
use Rattle.std.specs.Prelude.{◌≢◌, ℕ, ◌<◌, ◌≤◌, ◌^◌, ◌==◌, List, length, All, AllPairs, position}
use Rattle.std.specs.declared.option.Option.{Option}
use Rattle.cache_model.specs.declared.objects.Object.{Object}
use Rattle.cache_model.specs.Claim.{Terms}
use Rattle.cache_model.specs.declared.intervals.Interval.{Interval}
use Rattle.cache_model.specs.Intervals.{eligible_intervals}

-- how many steps there are, and the intervals over them in order of start
pub record Timeline : Type 0 where
  pub steps : ℕ
  pub items : List Interval

-- what stands where a list has no interval of some number
abbrev pub no_interval : Interval
no_interval = record { start = 0; end = 0; size = 0; gain = 0 }

-- the eligible intervals over the steps of a trace
abbrev pub timeline_of : Terms → List Object → Timeline
timeline_of terms trace = record { steps = length trace; items = eligible_intervals terms trace }

-- the number of the interval that starts at the request
abbrev pub starting_at : List Interval → ℕ → Option ℕ
starting_at intervals t = position (λ i. i.start == t) intervals

-- the number of the interval that ends at the request
abbrev pub ending_at : List Interval → ℕ → Option ℕ
ending_at intervals t = position (λ i. i.end == t) intervals

-- the interval starts before it ends, both at requests, and its size and its gain are those of an object
pub record IsInterval (steps : ℕ) (i : Interval) : Type 0 where
  pub order : i.start < i.end
  pub within : i.end < steps
  pub size : (1 ≤ i.size) × (i.size ≤ 2 ^ 48)
  pub gain : (1 ≤ i.gain) × (i.gain ≤ 2 ^ 48)

-- intervals in order of start, of which no two end at one request
pub record IsTimeline (line : Timeline) : Type 0 where
  pub few_steps : line.steps ≤ 2 ^ 25
  pub few_intervals : length line.items ≤ line.steps
  pub order : AllPairs (λ i j. i.start < j.start) line.items
  pub ends : AllPairs (λ i j. i.end ≢ j.end) line.items
  pub intervals : All (IsInterval line.steps) line.items
