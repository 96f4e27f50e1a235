-- What claimed hits must write.
use Rattle.std.specs.Prelude.{◌≡◌, ℕ, ◌<◌, nat_le, Bool, false, IsTrue, not, ◌&&◌, ◌||◌, if◌then◌else◌, List, length, sum_by}
use Rattle.cache_model.specs.declared.objects.Object.{Object}
use Rattle.cache_model.specs.declared.intervals.Interval.{Interval}
use Rattle.cache_model.specs.Claim.{before_request, counts_past, holds, only_fills, request_at}
use Rattle.judge_laws.specs.Flags.{HitsFlagged, intervals_within, is_flagged}

-- the contents hold the object before a request exactly if it is flagged
abbrev pub HitsExactly : List Object → List (List Object) → List Bool → Type 0
HitsExactly trace contents flags =
    (t : ℕ) → t < length trace → holds (before_request contents t) (request_at trace t) ≡ is_flagged flags t

-- the contents hold the object before each flagged request, and before no other that counts from the warm-up on: whether it is held before the others is not told
pub record HitsAsCounted (warmup : ℕ) (fills : List Bool) (trace : List Object) (contents : List (List Object)) (flags : List Bool) : Type 0 where
  pub flagged : HitsFlagged trace contents flags
  pub no_other : (t : ℕ) → t < length trace → IsTrue (counts_past warmup fills t) → is_flagged flags t ≡ false → holds (before_request contents t) (request_at trace t) ≡ false

-- whether the object of an interval must be written at its start: the interval ends at a flagged request, its start is at the warm-up or after it, and this request only fills or is not flagged
abbrev pub must_write : ℕ → List Bool → List Bool → Interval → Bool
must_write warmup fills flags i =
    is_flagged flags i.end && nat_le warmup i.start && (only_fills fills i.start || not (is_flagged flags i.start))

-- the least written bytes of flags: the sizes of the intervals whose object must be written, summed
abbrev pub least_written : ℕ → ℕ → List Bool → List Object → List Bool → ℕ
least_written capacity warmup fills trace flags =
    sum_by (λ i. if must_write warmup fills flags i then i.size else 0) (intervals_within capacity trace)
