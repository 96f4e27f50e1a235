-- How the intervals of a request are found without a search: a number for each step.
use Rattle.std.specs.Prelude.{◌≡◌, ℕ, ◌<◌, ◌==◌, if◌then◌else◌, List, length, slice_index, position, Some, None}
use Rattle.std.specs.declared.option.Option.{Option}
use Rattle.cache_model.specs.declared.intervals.Interval.{Interval}
use Rattle.interval_maker.specs.Timelines.{Timeline, IsTimeline}

-- what is stored where no interval starts or ends
abbrev pub no_number : ℕ
no_number = 4294967295

-- the number of the interval that is stored, if any
abbrev pub named : ℕ → Option ℕ
named stored = if stored == no_number then None else Some stored

-- at each request stands the number of the interval whose start or end is there
abbrev pub AreNumbers : (Interval → ℕ) → List Interval → List ℕ → Type 0
AreNumbers end_of intervals numbers =
    (t : ℕ) → t < length numbers → named (slice_index numbers t) ≡ position (λ i. end_of i == t) intervals

-- the intervals, with the number of the one that starts and of the one that ends at each request
pub record IsStored (line : Timeline) (starting ending : List ℕ) : Type 0 where
  pub timeline : IsTimeline line
  pub each_start : length starting ≡ line.steps
  pub each_end : length ending ≡ line.steps
  pub starts : AreNumbers (λ i. i.start) line.items starting
  pub ends : AreNumbers (λ i. i.end) line.items ending
