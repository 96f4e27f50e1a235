-- What possible flags claim is scored, and so it is bounded.
use Rattle.std.proofs.Common.{◌≡◌, ℕ, zero, suc, ◌+◌, ◌<◌, ◌≤◌, refl, ap, Bool, true, false, ◌&&◌, not, cond, nat_le, List, length, arith, sum_by}
use Rattle.std.specs.List.{range_with_len}
use Rattle.std.proofs.lemmas.Bool.{le-leb, leb-true}
use Rattle.std.proofs.lemmas.List.Sums.{sum_by-cons, sum_by-le-sum_by}
use Rattle.cache_model.specs.declared.objects.Object.{Object}
use Rattle.cache_model.specs.declared.objects.Objective.{Objective}
use Rattle.cache_model.specs.Claim.{Terms, counts, counts_past, only_fills, holds, gain_of, before_request, request_at, score, terms_from}
use Rattle.cache_model.specs.Objects.{numbers_of}
use Rattle.cache_model.proofs.Headline.{valid_bounds}
use Rattle.judge_laws.specs.Flags.{is_flagged, HitsFlagged, claimed}
use Rattle.judge_laws.specs.Laws.{ClaimedIsScored, ClaimedIsBounded}
use Rattle.judge_laws.proofs.Possible.{possible_is_allowed}

-- a sum over a range is no more than another if no term is
sum_by-range_le : (f g : ℕ → ℕ) (a n : ℕ) → ((k : ℕ) → a ≤ k → k < a + n → f k ≤ g k) → sum_by f (range_with_len a n) ≤ sum_by g (range_with_len a n)
sum_by-range_le f g a zero below = omega arith
sum_by-range_le f g a (suc n) below =
    omega (
      arith,
      sum_by-cons f a (range_with_len (a + 1) n),
      sum_by-cons g a (range_with_len (a + 1) n),
      below a (omega arith) (omega arith),
      sum_by-range_le f g (a + 1) n (λ k low high. below k (omega arith) (omega arith)),
    )

-- a flag that is hit earns no more than the hit
hit_earns : (counted flagged held : Bool) (n : ℕ) → (flagged ≡ true → held ≡ true) → cond (counted && flagged) n 0 ≤ cond (counted && held) n 0
hit_earns false flagged held n hit = omega arith
hit_earns true false held n hit = omega arith
hit_earns true true held n hit = let same : cond held n 0 ≡ n = ap (λ s. cond s n 0) (hit refl) in omega arith

-- contents that hit at each flagged request score what is claimed
claimed_of_hits : (terms : Terms) (trace : List Object) (flags : List Bool) (contents : List (List Object)) → HitsFlagged trace contents flags → claimed terms trace flags ≤ score terms trace contents
claimed_of_hits terms trace flags contents hits =
    sum_by-range_le
    (λ t. cond (counts terms t && is_flagged flags t) (gain_of terms.objective (request_at trace t)) 0)
    (λ t. cond (counts terms t && holds (before_request contents t) (request_at trace t)) (gain_of terms.objective (request_at trace t)) 0) 0 (length trace)
    (λ t low high. hit_earns (counts terms t) (is_flagged flags t) (holds (before_request contents t) (request_at trace t)) (gain_of terms.objective (request_at trace t)) (hits t (omega arith)))

pub claimed_is_scored : ClaimedIsScored
claimed_is_scored c trace flags possible =
    let made = possible_is_allowed c trace flags possible in
    (made.0, made.1, λ o w fills. claimed_of_hits (terms_from o c w fills) trace flags made.0 made.2)

-- fewer requests count past a longer warm-up
later_earns : (first w t : ℕ) (other flagged : Bool) (n : ℕ) → first ≤ w → cond (nat_le w t && other && flagged) n 0 ≤ cond (nat_le first t && other && flagged) n 0
later_earns first w t other flagged n below = at (nat_le w t) refl
  where
    at : (past : Bool) → nat_le w t ≡ past → cond (past && other && flagged) n 0 ≤ cond (nat_le first t && other && flagged) n 0
    at false e = omega arith
    at true e =
        let passed : w ≤ t = leb-true w t e in
        let same : cond (nat_le first t && other && flagged) n 0 ≡ cond (true && other && flagged) n 0 = ap (λ s. cond (s && other && flagged) n 0) (le-leb first t (omega arith)) in
        omega arith

claimed_later : (o : Objective) (c first w : ℕ) (fills : List Bool) (trace : List Object) (flags : List Bool) → first ≤ w
    → claimed (terms_from o c w fills) trace flags ≤ claimed (terms_from o c first fills) trace flags
claimed_later o c first w fills trace flags below =
    sum_by-le-sum_by
    (λ t. cond (counts_past w fills t && is_flagged flags t) (gain_of o (request_at trace t)) 0)
    (λ t. cond (counts_past first fills t && is_flagged flags t) (gain_of o (request_at trace t)) 0) (numbers_of trace)
    (λ t. later_earns first w t (not (only_fills fills t)) (is_flagged flags t) (gain_of o (request_at trace t)) below)

pub claimed_is_bounded : ClaimedIsBounded
claimed_is_bounded trace fills h records flags w valid possible below =
    let made = claimed_is_scored h.capacity trace flags possible in
    omega (
      arith,
      claimed_later h.objective h.capacity h.warmup w fills trace flags below,
      made.2 h.objective h.warmup fills,
      (valid_bounds trace fills h records valid).no_policy_passes_the_floor made.0 made.1,
    )
