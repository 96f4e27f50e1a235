-- How old flagged objects are that expire a time after they were written, the ttl, and which flags are possible then.
use Rattle.std.specs.Prelude.{ℕ, zero, suc, ◌+◌, ◌-◌, ◌<◌, ◌≤◌, nat_lt, Bool, not, ◌&&◌, ◌||◌, if◌then◌else◌, IsTrue, List, find, length}
use Rattle.std.specs.declared.option.Option.{Option}
use Rattle.std.specs.Option.{option_map}
use Rattle.cache_model.specs.declared.objects.Object.{Object}
use Rattle.cache_model.specs.Claim.{before_request, holds, only_fills, request_at, same_object}
use Rattle.cache_model.specs.Objects.{numbers_of}
use Rattle.freshness.specs.Stale.{clock}
use Rattle.judge_laws.specs.Flags.{IsPossible, is_flagged}
use Rattle.ttl_laws.specs.Fresh.{written_at}
use Rattle.ttl_judge.specs.declared.ages.TooOld.{TooOld}

-- whether request t can write its object: it only fills, or is not flagged
abbrev pub can_write : List Bool → List Bool → ℕ → Bool
can_write fills flags t = only_fills fills t || not (is_flagged flags t)

-- the clock at the last of the first n requests that can write x, and 0 if none can
abbrev pub last_write : List Bool → List Object → List ℕ → List Bool → ℕ → Object → ℕ
last_write fills trace times flags zero x = 0
last_write fills trace times flags (suc t) x =
    if same_object (request_at trace t) x && can_write fills flags t then clock times t else last_write fills trace times flags t x

-- how old the object of request t is at least, if the flagged requests are hits
abbrev pub age_at : List Bool → List Object → List ℕ → List Bool → ℕ → ℕ
age_at fills trace times flags t = clock times t - last_write fills trace times flags t (request_at trace t)

-- the flags are possible, and no flagged object is older than the ttl
pub record IsPossibleWithTtl (capacity : ℕ) (fills : List Bool) (trace : List Object) (times : List ℕ) (ttl : ℕ) (flags : List Bool) : Type 0 where
  pub possible : IsPossible capacity trace flags
  pub young : (t : ℕ) → t < length trace → IsTrue (is_flagged flags t) → age_at fills trace times flags t ≤ ttl

-- before each flagged request its object is held, and was written no more than the ttl ago
abbrev pub HasFreshFlagged : List Bool → List Object → List ℕ → ℕ → List (List Object) → List Bool → Type 0
HasFreshFlagged fills trace times ttl contents flags =
    (t : ℕ) → t < length trace → IsTrue (is_flagged flags t)
    → IsTrue (holds (before_request contents t) (request_at trace t))
    × (clock times t ≤ written_at fills trace times ttl contents t (request_at trace t) + ttl)

-- request t, and how old its object is
abbrev pub too_old_at : List Bool → List Object → List ℕ → List Bool → ℕ → TooOld
too_old_at fills trace times flags t = record { request = t; age = age_at fills trace times flags t }

-- the first flagged request whose object is older than the ttl
abbrev pub first_too_old : List Bool → List Object → List ℕ → ℕ → List Bool → Option TooOld
first_too_old fills trace times ttl flags =
    option_map (too_old_at fills trace times flags)
    (find (λ t. is_flagged flags t && nat_lt ttl (age_at fills trace times flags t)) (numbers_of trace))
