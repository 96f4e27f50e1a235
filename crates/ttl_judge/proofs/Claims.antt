-- What possible flags claim with a ttl is scored, and so it is bounded.
use Rattle.std.proofs.Common.{◌≡◌, ℕ, ◌+◌, ◌<◌, ◌≤◌, refl, Bool, true, false, not, ◌&&◌, cond, nat_le, List, length, arith}
use Rattle.std.proofs.Math.Nat.{mul-le-mul_left}
use Rattle.std.proofs.lemmas.Bool.{le-leb}
use Rattle.cache_model.specs.declared.objects.Object.{Object}
use Rattle.cache_model.specs.Claim.{Terms, before_request, counts, gain_of, holds, only_fills, request_at, terms_from}
use Rattle.freshness.specs.Stale.{clock}
use Rattle.interval_ends.proofs.Tables.{sum_by-range_le}
use Rattle.judge_laws.specs.Flags.{claimed, is_flagged}
use Rattle.ttl_laws.specs.Fresh.{is_fresh_hit, score_with_ttl, written_at}
use Rattle.ttl_laws.proofs.Within.{no_policy_scores_more_with_ttl}
use Rattle.ttl_judge.specs.Ages.{HasFreshFlagged}
use Rattle.ttl_judge.specs.Laws.{ClaimedIsBoundedWithTtl, ClaimedIsScoredWithTtl}
use Rattle.ttl_judge.proofs.Fresh.{possible_is_fresh}

-- a flagged request that counts earns what a fresh hit does
earns : (past fill flag held young : Bool) (n : ℕ) → (flag ≡ true → (held ≡ true) × (young ≡ true))
    → cond ((past && not fill) && flag) n 0 ≤ cond ((past && not fill) && (held && not fill && young)) n 0
earns false fill flag held young n hit = omega arith
earns true true flag held young n hit = omega arith
earns true false false held young n hit = omega arith
earns true false true held young n hit =
    let own = hit refl in
    let claims : cond ((true && not false) && true) n 0 ≡ n = refl in
    let scores : cond ((true && not false) && (held && not false && young)) n 0 ≡ n = rw (own.0, own.1) refl in
    omega arith

claimed_of_fresh : (terms : Terms) (trace : List Object) (times : List ℕ) (ttl : ℕ) (flags : List Bool) (contents : List (List Object))
    → HasFreshFlagged terms.fills trace times ttl contents flags → claimed terms trace flags ≤ score_with_ttl terms trace times ttl contents
claimed_of_fresh terms trace times ttl flags contents fresh =
    sum_by-range_le
    (λ t. cond (counts terms t && is_flagged flags t) (gain_of terms.objective (request_at trace t)) 0)
    (λ t. cond (counts terms t && is_fresh_hit terms.fills trace times ttl contents t) (gain_of terms.objective (request_at trace t)) 0) 0 (length trace)
    (λ t low high. each t (omega arith))
  where
    each : (t : ℕ) → t < length trace
        → cond (counts terms t && is_flagged flags t) (gain_of terms.objective (request_at trace t)) 0
        ≤ cond (counts terms t && is_fresh_hit terms.fills trace times ttl contents t) (gain_of terms.objective (request_at trace t)) 0
    each t within =
        let x : Object = request_at trace t in
        let last : ℕ = written_at terms.fills trace times ttl contents t x in
        earns (nat_le terms.warmup t) (only_fills terms.fills t) (is_flagged flags t) (holds (before_request contents t) x) (nat_le (clock times t) (last + ttl))
        (gain_of terms.objective x)
        (λ flagged. let own = fresh t within flagged in (own.0, le-leb (clock times t) (last + ttl) own.1))

pub claimed_is_scored_with_ttl : ClaimedIsScoredWithTtl
claimed_is_scored_with_ttl capacity fills trace times ttl flags possible =
    let made = possible_is_fresh capacity fills trace times ttl flags possible in
    (made.0, made.1, λ objective warmup. claimed_of_fresh (terms_from objective capacity warmup fills) trace times ttl flags made.0 made.2)

pub claimed_is_bounded_with_ttl : ClaimedIsBoundedWithTtl
claimed_is_bounded_with_ttl terms unit denominator trace times prices ttl flags possible same =
    let made = possible_is_fresh terms.capacity terms.fills trace times ttl flags possible in
    omega (
      arith,
      mul-le-mul_left denominator (claimed_of_fresh terms trace times ttl flags made.0 made.2),
      no_policy_scores_more_with_ttl terms unit denominator trace times prices ttl made.0 made.1 same,
    )
