-- What is proved of flags of objects that expire a time after they were written; each law is the contract of a function.
use Rattle.std.specs.Prelude.{◌≡◌, ℕ, ◌*◌, ◌≤◌, Bool, List, length}
use Rattle.cache_model.specs.declared.objects.Object.{Object}
use Rattle.cache_model.specs.declared.objects.Objective.{Objective}
use Rattle.cache_model.specs.Claim.{IsAllowed, Terms, terms_from}
use Rattle.judge_laws.specs.Flags.{claimed}
use Rattle.ttl_laws.specs.Fresh.{score_with_ttl}
use Rattle.ttl_laws.specs.Runs.{bound_with_ttl}
use Rattle.ttl_judge.specs.Ages.{HasFreshFlagged, IsPossibleWithTtl}

-- if the flags are possible with the ttl, some allowed contents have each flagged object, and no older than that
abbrev pub PossibleIsFresh : Type 0
PossibleIsFresh =
    (capacity : ℕ) (fills : List Bool) (trace : List Object) (times : List ℕ) (ttl : ℕ) (flags : List Bool)
    → IsPossibleWithTtl capacity fills trace times ttl flags
    → (contents : List (List Object)) × IsAllowed capacity trace contents × HasFreshFlagged fills trace times ttl contents flags

-- and if allowed contents have each flagged object, and no older than that, the flags are possible with the ttl
abbrev pub FreshIsPossible : Type 0
FreshIsPossible =
    (capacity : ℕ) (fills : List Bool) (trace : List Object) (times : List ℕ) (ttl : ℕ) (flags : List Bool) (contents : List (List Object))
    → IsAllowed capacity trace contents
    → HasFreshFlagged fills trace times ttl contents flags
    → IsPossibleWithTtl capacity fills trace times ttl flags

-- the contents score at least what the flags claim, in hits and in bytes, whatever the warm-up
abbrev pub ScoresClaimedWithTtl : ℕ → List Bool → List Object → List ℕ → ℕ → List Bool → List (List Object) → Type 0
ScoresClaimedWithTtl capacity fills trace times ttl flags contents =
    (objective : Objective) (warmup : ℕ)
    → claimed (terms_from objective capacity warmup fills) trace flags
    ≤ score_with_ttl (terms_from objective capacity warmup fills) trace times ttl contents

-- if the flags are possible with the ttl, some allowed contents score at least what they claim
abbrev pub ClaimedIsScoredWithTtl : Type 0
ClaimedIsScoredWithTtl =
    (capacity : ℕ) (fills : List Bool) (trace : List Object) (times : List ℕ) (ttl : ℕ) (flags : List Bool)
    → IsPossibleWithTtl capacity fills trace times ttl flags
    → (contents : List (List Object)) × IsAllowed capacity trace contents × ScoresClaimedWithTtl capacity fills trace times ttl flags contents

-- over the denominator, possible flags claim no more than the bound of any prices with the ttl
abbrev pub ClaimedIsBoundedWithTtl : Type 0
ClaimedIsBoundedWithTtl =
    (terms : Terms) (unit denominator : ℕ) (trace : List Object) (times prices : List ℕ) (ttl : ℕ) (flags : List Bool)
    → IsPossibleWithTtl terms.capacity terms.fills trace times ttl flags
    → length prices ≡ length trace
    → denominator * claimed terms trace flags ≤ bound_with_ttl terms unit denominator trace times prices ttl
