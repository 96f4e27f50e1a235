-- What claimed hits are worth, and what they must write.
use Rattle.std.specs.Prelude.{◌≡◌, ℕ, Bool, List}
use Rattle.cache_model.specs.declared.objects.Object.{Object}
use Rattle.cache_model.specs.declared.objects.Objective.{Objective}
use Rattle.cache_model.specs.Claim.{terms_from}
use Rattle.judge_laws.specs.Flags.{IsPossible, claimed}
use Rattle.write_laws.specs.Claims.{least_written}

-- what flags claim of an objective, whatever the capacity
abbrev pub IsClaim : Objective → ℕ → List Bool → List Object → List Bool → ℕ → Type 0
IsClaim objective warmup fills trace flags total = (capacity : ℕ) → total ≡ claimed (terms_from objective capacity warmup fills) trace flags

-- what flags must write, at any capacity at which they are possible
abbrev pub IsLeastWritten : ℕ → List Bool → List Object → List Bool → ℕ → Type 0
IsLeastWritten warmup fills trace flags total =
    (capacity : ℕ) → IsPossible capacity trace flags → total ≡ least_written capacity warmup fills trace flags
