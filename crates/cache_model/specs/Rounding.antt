-- Rounding: flagged intervals are taken, and then, in an order, each other one that still fits.
use Rattle.std.specs.Prelude.{◌≡◌, ℕ, ◌+◌, ◌-◌, ◌*◌, ◌/◌, ◌≤◌, Bool, true, false, ◌&&◌, ◌||◌, ◌==◌, nat_lt, nat_le, if◌then◌else◌, List, length, sum_by, zip, All}
use Rattle.std.specs.List.{list_any, list_all, range_with_len, AllZip}
use Rattle.cache_model.specs.declared.intervals.Interval.{Interval}
use Rattle.cache_model.specs.Schedules.{covers}
use Rattle.cache_model.specs.Claim.{is_kept}

-- the interval i stands before j in order of start
abbrev pub by_start : Interval → Interval → Bool
by_start i j = nat_lt i.start j.start

-- size times steps covered, over gain
abbrev pub rank : Interval → ℕ
rank i = i.size * (i.end - i.start) / i.gain

-- the interval i stands before j in order of rank, ties in order of start
abbrev pub by_rank : Interval → Interval → Bool
by_rank i j = nat_lt (rank i) (rank j) || ((rank i == rank j) && by_start i j)

-- the sizes over step t of the flagged intervals and of those that are taken and stand before i in the order
abbrev pub load_beside : (Interval → Interval → Bool) → List Interval → List Bool → List Bool → Interval → ℕ → ℕ
load_beside ahead intervals full keeps i t =
    sum_by (λ (j, flagged). if covers t j && (flagged || (ahead j i && is_kept keeps j.start)) then j.size else 0) (zip intervals full)

-- at each step that the interval covers, its size and that load are within the capacity
abbrev pub fits_beside : (Interval → Interval → Bool) → List Interval → ℕ → List Bool → List Bool → Interval → Bool
fits_beside ahead intervals capacity full keeps i =
    list_all (λ t. nat_le (i.size + load_beside ahead intervals full keeps i t) capacity) (range_with_len i.start (i.end - i.start))

-- one flag for each interval, and the flagged ones fit together at each step
pub record FitTogether (intervals : List Interval) (capacity : ℕ) (full : List Bool) : Type 0 where
  pub one_flag_each : length full ≡ length intervals
  pub within_capacity : (t : ℕ) → sum_by (λ (i, flagged). if covers t i && flagged then i.size else 0) (zip intervals full) ≤ capacity

-- an interval is taken exactly if it is flagged or fits, and a request is kept only if a taken interval starts
pub record IsRounded (ahead : Interval → Interval → Bool) (intervals : List Interval) (capacity steps : ℕ) (full keeps : List Bool) : Type 0 where
  pub one_keep_each : length keeps ≡ steps
  pub flagged_fit : FitTogether intervals capacity full
  pub taken : AllZip (λ i flagged. is_kept keeps i.start ≡ (flagged || fits_beside ahead intervals capacity full keeps i)) intervals full
  pub only_starts : (t : ℕ) → list_any (λ i. i.start == t) intervals ≡ false → is_kept keeps t ≡ false

-- the sizes over step t of the intervals that are taken
abbrev pub taken_load : List Interval → List Bool → ℕ → ℕ
taken_load intervals keeps t = sum_by (λ i. if covers t i && is_kept keeps i.start then i.size else 0) intervals

-- each interval that is not taken would overfill a step that it covers
abbrev pub IsMaximal : List Interval → ℕ → List Bool → Type 0
IsMaximal intervals capacity keeps =
    All (λ i. is_kept keeps i.start ≡ false → list_any (λ t. nat_lt capacity (i.size + taken_load intervals keeps t)) (range_with_len i.start (i.end - i.start)) ≡ true) intervals
