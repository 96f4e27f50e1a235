-- Objects that expire a time after they were written, the ttl: which hits are fresh, and what contents score.
use Rattle.std.specs.Prelude.{ℕ, zero, suc, ◌+◌, nat_le, Bool, not, ◌&&◌, if◌then◌else◌, List, sum_by}
use Rattle.cache_model.specs.declared.objects.Object.{Object}
use Rattle.cache_model.specs.Claim.{Terms, counts, gain_of, holds, before_request, only_fills, request_at, same_object}
use Rattle.cache_model.specs.Objects.{numbers_of}
use Rattle.freshness.specs.Stale.{clock}

-- whether request t is a fresh hit on x, last written at this clock: x is held before it, it doesn't only fill, and no more than the ttl passed
abbrev pub hits_fresh : List Bool → List ℕ → ℕ → List (List Object) → ℕ → Object → ℕ → Bool
hits_fresh fills times ttl contents t x written =
    holds (before_request contents t) x && not (only_fills fills t) && nat_le (clock times t) (written + ttl)

-- whether request t writes x: the contents have x after the request, which is no fresh hit
abbrev pub writes_anew : List Bool → List ℕ → ℕ → List (List Object) → ℕ → Object → ℕ → Bool
writes_anew fills times ttl contents t x written =
    holds (before_request contents (t + 1)) x && not (hits_fresh fills times ttl contents t x written)

-- the clock at the last of the first n requests that wrote x, and 0 if none did
abbrev pub written_at : List Bool → List Object → List ℕ → ℕ → List (List Object) → ℕ → Object → ℕ
written_at fills trace times ttl contents zero x = 0
written_at fills trace times ttl contents (suc t) x =
    let written = written_at fills trace times ttl contents t x in
    if same_object (request_at trace t) x && writes_anew fills times ttl contents t x written then clock times t else written

-- whether request t is a fresh hit
abbrev pub is_fresh_hit : List Bool → List Object → List ℕ → ℕ → List (List Object) → ℕ → Bool
is_fresh_hit fills trace times ttl contents t =
    let x = request_at trace t in
    hits_fresh fills times ttl contents t x (written_at fills trace times ttl contents t x)

-- the gains of the requests that count and are fresh hits
abbrev pub score_with_ttl : Terms → List Object → List ℕ → ℕ → List (List Object) → ℕ
score_with_ttl terms trace times ttl contents =
    sum_by
    (λ t. if counts terms t && is_fresh_hit terms.fills trace times ttl contents t then gain_of terms.objective (request_at trace t) else 0)
    (numbers_of trace)
