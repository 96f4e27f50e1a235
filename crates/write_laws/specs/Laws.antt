-- What is proved of written bytes; each law is the contract of a function.
use Rattle.std.specs.Prelude.{◌≡◌, ℕ, ◌≤◌, Bool, List}
use Rattle.cache_model.specs.declared.objects.Object.{Object}
use Rattle.cache_model.specs.Claim.{IsAllowed}
use Rattle.judge_laws.specs.Flags.{IsPossible}
use Rattle.write_laws.specs.Claims.{HitsAsCounted, HitsExactly, least_written}
use Rattle.cache_model.specs.Written.{written_bytes}

-- allowed contents that hit at the flagged requests, and at no other that counts, write no fewer bytes
abbrev pub WriteNoFewer : Type 0
WriteNoFewer =
    (capacity warmup : ℕ) (fills : List Bool) (trace : List Object) (flags : List Bool) (contents : List (List Object))
    → IsAllowed capacity trace contents
    → HitsAsCounted warmup fills trace contents flags
    → least_written capacity warmup fills trace flags ≤ written_bytes warmup fills trace contents

-- if the flags are possible, some allowed contents hit exactly there and write just these
abbrev pub WriteJust : Type 0
WriteJust =
    (capacity warmup : ℕ) (fills : List Bool) (trace : List Object) (flags : List Bool)
    → IsPossible capacity trace flags
    → (contents : List (List Object)) × IsAllowed capacity trace contents × HitsExactly trace contents flags
    × (written_bytes warmup fills trace contents ≡ least_written capacity warmup fills trace flags)
