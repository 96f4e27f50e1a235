-- Schedules that are being made: what is kept, and what each step then holds.
use Rattle.std.specs.Prelude.{◌≡◌, ℕ, ◌+◌, ◌<◌, ◌≤◌, Bool, false, ◌==◌, List, length, slice_index}
use Rattle.std.specs.List.{list_any}
use Rattle.cache_model.specs.declared.intervals.Interval.{Interval}
use Rattle.cache_model.specs.Claim.{is_kept}
use Rattle.cache_model.specs.Rounding.{taken_load}
use Rattle.interval_maker.specs.Timelines.{Timeline}

-- at each step that the interval covers, the load and its size are within the capacity
abbrev pub FitsOn : List ℕ → ℕ → Interval → Type 0
FitsOn loads capacity i = (t : ℕ) → i.start ≤ t → t < i.end → slice_index loads t + i.size ≤ capacity

-- only starts of intervals are kept, and each step holds the sizes of those that are taken, within the capacity
pub record IsTaken (line : Timeline) (capacity : ℕ) (keeps : List Bool) (loads : List ℕ) : Type 0 where
  pub one_keep_each : length keeps ≡ line.steps
  pub one_load_each : length loads ≡ line.steps
  pub only_starts : (t : ℕ) → list_any (λ i. i.start == t) line.items ≡ false → is_kept keeps t ≡ false
  pub loads_are : (t : ℕ) → t < line.steps → slice_index loads t ≡ taken_load line.items keeps t
  pub within_capacity : (t : ℕ) → taken_load line.items keeps t ≤ capacity
