-- The order in which the intervals without a flag are looked at.
use Rattle.std.specs.Prelude.{◌≡◌, ℕ, ◌/◌, ◌%◌, ◌^◌, Bool, true, ◌==◌, if◌then◌else◌, List, slice_index_or, count_by, AllPairs}
use Rattle.cache_model.specs.declared.intervals.Interval.{Interval}
use Rattle.cache_model.specs.Rounding.{by_rank}
use Rattle.interval_maker.specs.Timelines.{no_interval}
use Rattle.schedule_round.specs.declared.order.Ranked.{Ranked}

-- the number of the interval
abbrev pub number_of : Ranked → ℕ
number_of r = r.key % 2 ^ 32

-- its rank
abbrev pub rank_of : Ranked → ℕ
rank_of r = r.key / 2 ^ 32

-- the interval of that number
abbrev pub interval_at : List Interval → ℕ → Interval
interval_at intervals n = slice_index_or intervals n no_interval

-- the number of each interval without a flag stands once, and no other does; each stands before those that come later by rank
pub record IsRankOrder (intervals : List Interval) (full : List Bool) (order : List Ranked) : Type 0 where
  pub once : (n : ℕ) → count_by (λ r. number_of r == n) order ≡ (if slice_index_or full n true then 0 else 1)
  pub ascending : AllPairs (λ r s. by_rank (interval_at intervals (number_of r)) (interval_at intervals (number_of s)) ≡ true) order
