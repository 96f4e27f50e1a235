-- With a ttl that no clock passes a hit is fresh if its request doesn't only fill, whenever the object was written.
use Rattle.std.proofs.Common.{◌≡◌, ℕ, ◌+◌, ◌<◌, ◌∙◌, refl, ap, Bool, true, false, not, ◌&&◌, ◌||◌, cond, nat_le, List, length, arith}
use Rattle.std.proofs.lemmas.Bool.{le-leb}
use Rattle.cache_model.specs.declared.objects.Object.{Object}
use Rattle.cache_model.specs.Claim.{before_request, counts, gain_of, holds, only_fills, request_at}
use Rattle.cache_model.specs.Written.{writes}
use Rattle.cache_model.proofs.Streams.{sum_by-range_agree}
use Rattle.freshness.specs.Stale.{clock}
use Rattle.ttl_laws.specs.Fresh.{is_fresh_hit, written_at}
use Rattle.ttl_scores.specs.Written.{writes_own}
use Rattle.ttl_scores.specs.Laws.{IsLong, LongTtlsLoseNoHit, LongTtlsWriteNoMore}

module _ (fills : List Bool) (trace : List Object) (times : List ℕ) (ttl : ℕ) (contents : List (List Object)) (long : IsLong trace times ttl) where
  -- whether the object of request t is held before it
  abbrev was_held : ℕ → Bool
  was_held t = holds (before_request contents t) (request_at trace t)

  -- nothing is too old
  young : (t written : ℕ) → t < length trace → nat_le (clock times t) (written + ttl) ≡ true
  young t written within = le-leb (clock times t) (written + ttl) (omega (arith, long t within))

  -- so a hit is fresh unless it only fills
  pub fresh-long : (t : ℕ) → t < length trace → is_fresh_hit fills trace times ttl contents t ≡ (was_held t && not (only_fills fills t) && true)
  fresh-long t within =
      ap (λ b. was_held t && not (only_fills fills t) && b) (young t (written_at fills trace times ttl contents t (request_at trace t)) within)

  -- and what is no fresh hit was not held, or only fills
  pub writes-long : (t : ℕ) → t < length trace → writes_own fills trace times ttl contents t ≡ writes fills trace contents t
  writes-long t within =
      ap (λ b. holds (before_request contents (t + 1)) (request_at trace t) && not b) (fresh-long t within)
      ∙ ap (λ b. holds (before_request contents (t + 1)) (request_at trace t) && b) (misses (was_held t) (only_fills fills t))
    where
      misses : (held filling : Bool) → not (held && not filling && true) ≡ (filling || not held)
      misses true true = refl
      misses true false = refl
      misses false true = refl
      misses false false = refl

-- what a request earns by a fresh hit is what it earns by a hit
earns : (past filling held : Bool) (gain : ℕ) → cond ((past && not filling) && (held && not filling && true)) gain 0 ≡ cond ((past && not filling) && held) gain 0
earns false filling held gain = refl
earns true true held gain = refl
earns true false true gain = refl
earns true false false gain = refl

pub long_ttls_lose_no_hit : LongTtlsLoseNoHit
long_ttls_lose_no_hit terms trace times ttl contents long =
    sum_by-range_agree
    (λ t. cond (counts terms t && is_fresh_hit terms.fills trace times ttl contents t) (gain_of terms.objective (request_at trace t)) 0)
    (λ t. cond (counts terms t && holds (before_request contents t) (request_at trace t)) (gain_of terms.objective (request_at trace t)) 0)
    0 (length trace)
    (λ t low high.
    ap (λ b. cond (counts terms t && b) (gain_of terms.objective (request_at trace t)) 0) (fresh-long terms.fills trace times ttl contents long t (omega arith))
    ∙ earns (nat_le terms.warmup t) (only_fills terms.fills t) (holds (before_request contents t) (request_at trace t)) (gain_of terms.objective (request_at trace t)))

pub long_ttls_write_no_more : LongTtlsWriteNoMore
long_ttls_write_no_more warmup fills trace times ttl contents long =
    sum_by-range_agree
    (λ t. cond (nat_le warmup t && writes_own fills trace times ttl contents t) (request_at trace t).size 0)
    (λ t. cond (nat_le warmup t && writes fills trace contents t) (request_at trace t).size 0)
    0 (length trace)
    (λ t low high. ap (λ b. cond (nat_le warmup t && b) (request_at trace t).size 0) (writes-long fills trace times ttl contents long t (omega arith)))
