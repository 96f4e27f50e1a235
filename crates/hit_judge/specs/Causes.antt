-- The first cause why flags are not possible.
use Rattle.std.specs.Prelude.{◌≡◌, ℕ, ◌<◌, ◌≤◌, ◌⊎◌, Bool, false, ◌&&◌, ◌||◌, nat_lt, if◌then◌else◌, IsTrue, List, find, length}
use Rattle.std.specs.declared.option.Option.{Option}
use Rattle.std.specs.Option.{option_or, option_map}
use Rattle.cache_model.specs.declared.objects.Object.{Object}
use Rattle.cache_model.specs.Claim.{request_at}
use Rattle.cache_model.specs.Objects.{numbers_of, IsLast, IsNext, is_first}
use Rattle.judge_laws.specs.Flags.{is_flagged, flagged_load}
use Rattle.hit_judge.specs.declared.causes.Impossible.{Impossible}
use Rattle.hit_judge.specs.declared.causes.Impossible.TheVariants.{First, Size, Stale, Load}
use Rattle.hit_judge.specs.Possible.{is_stale}

-- whether no contents can hit at request t: it is the first of its object, its object is larger than the capacity, or it is stale
abbrev pub never_hits : ℕ → List Object → List Bool → ℕ → Bool
never_hits capacity trace stale t = is_first trace t || nat_lt capacity (request_at trace t).size || is_stale stale t

-- which of the three holds at request t: the size if it does, and else that it is the first
abbrev pub request_cause : ℕ → List Object → ℕ → Impossible
request_cause capacity trace t =
    if nat_lt capacity (request_at trace t).size then Size t (request_at trace t).size else if is_first trace t then First t else Stale t

-- the cause at the first flagged request where no contents can hit
abbrev pub first_at_request : ℕ → List Object → List Bool → List Bool → Option Impossible
first_at_request capacity trace stale flags =
    option_map (request_cause capacity trace) (find (λ t. is_flagged flags t && never_hits capacity trace stale t) (numbers_of trace))

-- each flagged request has an earlier one of its object, which is no larger than the capacity
abbrev pub CanHitFlagged : ℕ → List Object → List Bool → Type 0
CanHitFlagged capacity trace flags =
    (t : ℕ) → t < length trace → IsTrue (is_flagged flags t) → (is_first trace t ≡ false) × ((request_at trace t).size ≤ capacity)

-- whether the next request of the object of request t is flagged, and no if it has none
abbrev pub IsNextFlagged : List Object → List Bool → ℕ → Bool → Type 0
IsNextFlagged trace flags t answer =
    ((b : ℕ) × IsNext trace t b × (answer ≡ is_flagged flags b)) ⊎ (IsLast trace t × (answer ≡ false))

-- the load of step t, as a cause
abbrev pub load_cause : ℕ → List Object → List Bool → ℕ → Impossible
load_cause capacity trace flags t = Load t (flagged_load capacity trace flags t)

-- the cause at the first step whose load is above the capacity
abbrev pub first_at_step : ℕ → List Object → List Bool → Option Impossible
first_at_step capacity trace flags =
    option_map (load_cause capacity trace flags) (find (λ t. nat_lt capacity (flagged_load capacity trace flags t)) (numbers_of trace))

-- the least flagged request that is the first of its object, of one above the capacity or stale, and else the least step whose load is above the capacity
abbrev pub first_cause : ℕ → List Object → List Bool → List Bool → Option Impossible
first_cause capacity trace stale flags = option_or (first_at_request capacity trace stale flags) (first_at_step capacity trace flags)
