-- Flags: which requests a simulator counts as hits, and whether these hits are possible.
use Rattle.std.specs.Prelude.{◌≡◌, ℕ, ◌<◌, ◌≤◌, Bool, false, ◌&&◌, if◌then◌else◌, IsTrue, List, [], length, slice_index_or, sum_by}
use Rattle.cache_model.specs.declared.objects.Object.{Object}
use Rattle.cache_model.specs.declared.objects.Objective.TheVariants.{Object as Hits}
use Rattle.cache_model.specs.declared.intervals.Interval.{Interval}
use Rattle.cache_model.specs.Claim.{Terms, counts, gain_of, holds, before_request, request_at, terms_from}
use Rattle.cache_model.specs.Objects.{numbers_of, is_first}
use Rattle.cache_model.specs.Intervals.{eligible_intervals}
use Rattle.cache_model.specs.Schedules.{covers}

-- whether request t is flagged; past the end of the flags none is
abbrev pub is_flagged : List Bool → ℕ → Bool
is_flagged flags t = slice_index_or flags t false

-- each interval of an object that fits: there is no warm-up, and every request counts
abbrev pub intervals_within : ℕ → List Object → List Interval
intervals_within capacity trace = eligible_intervals (terms_from Hits capacity 0 []) trace

-- the load of step t: the sizes of the intervals that cover it and end at a flagged request, summed
abbrev pub flagged_load : ℕ → List Object → List Bool → ℕ → ℕ
flagged_load capacity trace flags t =
    sum_by (λ i. if covers t i && is_flagged flags i.end then i.size else 0) (intervals_within capacity trace)

-- each flagged request has an earlier one of its object, which is no larger than the capacity, and the load of each step is at most the capacity
pub record IsPossible (capacity : ℕ) (trace : List Object) (flags : List Bool) : Type 0 where
  pub asked_before : (t : ℕ) → t < length trace → IsTrue (is_flagged flags t) → is_first trace t ≡ false
  pub fits : (t : ℕ) → t < length trace → IsTrue (is_flagged flags t) → (request_at trace t).size ≤ capacity
  pub within_capacity : (t : ℕ) → t < length trace → flagged_load capacity trace flags t ≤ capacity

-- before each flagged request its object is held
abbrev pub HitsFlagged : List Object → List (List Object) → List Bool → Type 0
HitsFlagged trace contents flags =
    (t : ℕ) → t < length trace → IsTrue (is_flagged flags t) → IsTrue (holds (before_request contents t) (request_at trace t))

-- what the flags claim: the gains of the flagged requests that count, summed
abbrev pub claimed : Terms → List Object → List Bool → ℕ
claimed terms trace flags =
    sum_by (λ t. if counts terms t && is_flagged flags t then gain_of terms.objective (request_at trace t) else 0) (numbers_of trace)
