-- What a long ttl changes; each law is the contract of a function.
use Rattle.std.specs.Prelude.{◌≡◌, ℕ, ◌<◌, ◌≤◌, Bool, List, length}
use Rattle.cache_model.specs.declared.objects.Object.{Object}
use Rattle.cache_model.specs.Claim.{Terms, score}
use Rattle.cache_model.specs.Written.{written_bytes}
use Rattle.freshness.specs.Stale.{clock}
use Rattle.ttl_laws.specs.Fresh.{score_with_ttl}
use Rattle.ttl_scores.specs.Written.{written_with_ttl}

-- no request is at a clock above the ttl, so nothing is ever too old
abbrev pub IsLong : List Object → List ℕ → ℕ → Type 0
IsLong trace times ttl = (t : ℕ) → t < length trace → clock times t ≤ ttl

-- with such a ttl contents score what they do without one
abbrev pub LongTtlsLoseNoHit : Type 0
LongTtlsLoseNoHit =
    (terms : Terms) (trace : List Object) (times : List ℕ) (ttl : ℕ) (contents : List (List Object))
    → IsLong trace times ttl
    → score_with_ttl terms trace times ttl contents ≡ score terms trace contents

-- and write what they do without one
abbrev pub LongTtlsWriteNoMore : Type 0
LongTtlsWriteNoMore =
    (warmup : ℕ) (fills : List Bool) (trace : List Object) (times : List ℕ) (ttl : ℕ) (contents : List (List Object))
    → IsLong trace times ttl
    → written_with_ttl warmup fills trace times ttl contents ≡ written_bytes warmup fills trace contents
