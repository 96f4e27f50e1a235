-- What is proved of flags; each law is the contract of a function.
use Rattle.std.specs.Prelude.{ℕ, ◌/◌, ◌≤◌, Bool, List}
use Rattle.cache_model.specs.declared.objects.Object.{Object}
use Rattle.cache_model.specs.declared.objects.Objective.{Objective}
use Rattle.cache_model.specs.declared.certificates.Header.{Header}
use Rattle.cache_model.specs.declared.certificates.Record.{Record}
use Rattle.cache_model.specs.Claim.{IsAllowed, score, terms_from}
use Rattle.cache_model.specs.Certificates.{IsValid}
use Rattle.judge_laws.specs.Flags.{IsPossible, HitsFlagged, claimed}

-- if the flags are possible, some allowed contents hit at each flagged request
abbrev pub PossibleIsAllowed : Type 0
PossibleIsAllowed =
    (capacity : ℕ) (trace : List Object) (flags : List Bool)
    → IsPossible capacity trace flags
    → (contents : List (List Object)) × IsAllowed capacity trace contents × HitsFlagged trace contents flags

-- and if allowed contents hit at each flagged request, the flags are possible
abbrev pub AllowedIsPossible : Type 0
AllowedIsPossible =
    (capacity : ℕ) (trace : List Object) (flags : List Bool) (contents : List (List Object))
    → IsAllowed capacity trace contents
    → HitsFlagged trace contents flags
    → IsPossible capacity trace flags

-- the contents score at least what the flags claim, in hits and in bytes, whatever the warm-up and whichever requests count
abbrev pub ScoresClaimed : ℕ → List Object → List Bool → List (List Object) → Type 0
ScoresClaimed capacity trace flags contents =
    (objective : Objective) (warmup : ℕ) (fills : List Bool)
    → claimed (terms_from objective capacity warmup fills) trace flags ≤ score (terms_from objective capacity warmup fills) trace contents

-- if the flags are possible, some allowed contents score at least what they claim
abbrev pub ClaimedIsScored : Type 0
ClaimedIsScored =
    (capacity : ℕ) (trace : List Object) (flags : List Bool)
    → IsPossible capacity trace flags
    → (contents : List (List Object)) × IsAllowed capacity trace contents × ScoresClaimed capacity trace flags contents

-- possible flags claim no more than the floor of a valid certificate's upper bound, if its warm-up is no longer than theirs
abbrev pub ClaimedIsBounded : Type 0
ClaimedIsBounded =
    (trace : List Object) (fills : List Bool) (h : Header) (records : List Record) (flags : List Bool) (warmup : ℕ)
    → IsValid trace fills h records
    → IsPossible h.capacity trace flags
    → h.warmup ≤ warmup
    → claimed (terms_from h.objective h.capacity warmup fills) trace flags ≤ h.upper / h.denominator
