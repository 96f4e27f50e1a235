-- Without a warm-up contents hit no less with a longer ttl: where they miss once less, or wrote no earlier.
use Rattle.std.proofs.Common.{◌≡◌, ℕ, zero, suc, ◌+◌, ◌<◌, ◌≤◌, ◌⊎◌, inl, inr, ◌∙◌, refl, ap, Bool, true, false, not, ◌&&◌, cond, nat_le, List, length, arith, sum_by}
use Rattle.std.proofs.lemmas.Bool.{and_from, and_parts, both_ways, le-leb, leb-true}
use Rattle.std.proofs.lemmas.List.Sums.{sum_by-le-sum_by}
use Rattle.cache_model.specs.declared.objects.Object.{Object}
use Rattle.cache_model.specs.Claim.{Terms, counts, gain_of, holds, before_request, IsAllowed, only_fills, request_at, same_object}
use Rattle.cache_model.specs.Objects.{numbers_of, objects_of}
use Rattle.cache_model.proofs.Duality.{same_object-refl}
use Rattle.cache_model.proofs.Sums.{sum_by-agree}
use Rattle.freshness.specs.Stale.{clock}
use Rattle.ttl_laws.specs.Fresh.{hits_fresh, written_at, is_fresh_hit, score_with_ttl}
use Rattle.ttl_laws.specs.Laws.{LongerScoresMore}
use Rattle.ttl_laws.proofs.Starts.{is_hit}
use Rattle.interval_ends.proofs.Tables.{sum_by-range_le}
use Rattle.interval_ends.proofs.Holding.{held-before}
use Rattle.ttl_laws.proofs.Idle.{clock-next, greatest-more, written-le}
use Rattle.ttl_laws.proofs.Objects.{asked-le, asked-only}
use Rattle.ttl_laws.proofs.Within.{so_far, sum_by-so_far}

-- of two scores the second is a hit ahead, or is no less and was written no earlier
abbrev IsAhead : ℕ → ℕ → ℕ → ℕ → ℕ → Type 0
IsAhead gain e f written renewed = (e + gain ≤ f) ⊎ ((e ≤ f) × (written ≤ renewed))

module _ (was next fills : Bool) (now ttl longer gain e f written renewed : ℕ) (low : ttl ≤ longer) (past : written ≤ now)
    (behind : e ≤ f) (ahead : was ≡ true → IsAhead gain e f written renewed) where
  abbrev hit : Bool
  hit = is_hit was fills now (written + ttl)

  abbrev hit_longer : Bool
  hit_longer = is_hit was fills now (renewed + longer)

  abbrev IsAfter : Bool → Bool → Type 0
  IsAfter h k =
      (e + cond h gain 0 ≤ f + cond k gain 0)
      × (next ≡ true → IsAhead gain (e + cond h gain 0) (f + cond k gain 0) (cond (next && not h) now written) (cond (next && not k) now renewed))

  asked : IsAfter hit hit_longer
  asked = at hit hit_longer refl refl
    where
      -- what was written no earlier is fresh for the longer ttl
      fresh_too : hit ≡ true → hit_longer ≡ false → written ≤ renewed → ⊥
      fresh_too h k later =
          let parts : ((was && not fills) ≡ true) × (nat_le now (written + ttl) ≡ true) = and_parts _ _ h in
          both_ways hit_longer k
          (and_from _ _ parts.0 (le-leb now (renewed + longer) (omega (arith, leb-true now (written + ttl) parts.1))))

      held : hit ≡ true → was ≡ true
      held h = (and_parts _ _ (and_parts _ _ h).0).0

      both : (n : Bool) → IsAhead gain e f written renewed → n ≡ true
          → IsAhead gain (e + gain) (f + gain) (cond (n && false) now written) (cond (n && false) now renewed)
      both true (inl one) is = inl (omega (arith, one))
      both true (inr same) is = inr (omega (arith, same.0), same.1)
      both false one is = absurd (both_ways false refl is)

      lost : (n : Bool) → e + gain ≤ f → n ≡ true
          → IsAhead gain (e + gain) (f + 0) (cond (n && false) now written) (cond (n && true) now renewed)
      lost true one is = inr (omega (arith, one), past)
      lost false one is = absurd (both_ways false refl is)

      neither : (n : Bool) → n ≡ true → IsAhead gain (e + 0) (f + 0) (cond (n && true) now written) (cond (n && true) now renewed)
      neither true is = inr (omega (arith, behind), omega arith)
      neither false is = absurd (both_ways false refl is)

      fewer : hit ≡ true → hit_longer ≡ false → IsAhead gain e f written renewed → e + gain ≤ f
      fewer h k (inl one) = one
      fewer h k (inr same) = absurd (fresh_too h k same.1)

      at : (h k : Bool) → hit ≡ h → hit_longer ≡ k → IsAfter h k
      at true true h k = (omega (arith, behind), both next (ahead (held h)))
      at true false h k =
          let one : e + gain ≤ f = fewer h k (ahead (held h)) in
          (omega (arith, one), lost next one)
      at false true h k = (omega (arith, behind), λ has. inl (omega (arith, behind)))
      at false false h k = (omega (arith, behind), neither next)

module _ (terms : Terms) (trace : List Object) (times : List ℕ) (contents : List (List Object))
    (allowed : IsAllowed terms.capacity trace contents) where
  abbrev held_at : ℕ → List Object
  held_at t = before_request contents t

  abbrev written : ℕ → ℕ → Object → ℕ
  written ttl n x = written_at terms.fills trace times ttl contents n x

  abbrev fresh : ℕ → ℕ → Object → Bool
  fresh ttl t x = hits_fresh terms.fills times ttl contents t x (written ttl t x)

  abbrev earned_at : ℕ → Object → ℕ → ℕ
  earned_at ttl x t = cond (same_object (request_at trace t) x) (cond (fresh ttl t x) (gain_of terms.objective x) 0) 0

  abbrev earned : ℕ → ℕ → Object → ℕ
  earned ttl n x = so_far (earned_at ttl x) n

  module _ (ttl longer : ℕ) (low : ttl ≤ longer) where
    abbrev IsBehind : ℕ → Object → Type 0
    IsBehind n x =
        (earned ttl n x ≤ earned longer n x)
        × (holds (held_at n) x ≡ true
        → IsAhead (gain_of terms.objective x) (earned ttl n x) (earned longer n x) (written ttl n x) (written longer n x))

    step : (t : ℕ) (x : Object) → t < length trace → IsBehind t x → IsBehind (suc t) x
    step t x within behind = at (same_object (request_at trace t) x) refl
      where
        next : Bool
        next = holds (held_at (t + 1)) x

        now : holds (held_at (suc t)) x ≡ true → next ≡ true
        now has = let e : t + 1 ≡ suc t = omega arith in ap (λ k. holds (held_at k) x) e ∙ has

        after : IsAfter (holds (held_at t) x) next (only_fills terms.fills t) (clock times t) ttl longer (gain_of terms.objective x)
            (earned ttl t x) (earned longer t x) (written ttl t x) (written longer t x) low
            (omega (arith, written-le terms.fills trace times ttl contents t x, clock-next times t, greatest-more 0 t times))
            behind.0 behind.1 (fresh ttl t x) (fresh longer t x)
        after =
            asked (holds (held_at t) x) next (only_fills terms.fills t) (clock times t) ttl longer (gain_of terms.objective x)
            (earned ttl t x) (earned longer t x) (written ttl t x) (written longer t x) low
            (omega (arith, written-le terms.fills trace times ttl contents t x, clock-next times t, greatest-more 0 t times))
            behind.0 behind.1

        at : (b : Bool) → same_object (request_at trace t) x ≡ b
            → (earned ttl t x + cond b (cond (fresh ttl t x) (gain_of terms.objective x) 0) 0
            ≤ earned longer t x + cond b (cond (fresh longer t x) (gain_of terms.objective x) 0) 0)
            × (holds (held_at (suc t)) x ≡ true
            → IsAhead (gain_of terms.objective x)
            (earned ttl t x + cond b (cond (fresh ttl t x) (gain_of terms.objective x) 0) 0)
            (earned longer t x + cond b (cond (fresh longer t x) (gain_of terms.objective x) 0) 0)
            (cond (b && (next && not (fresh ttl t x))) (clock times t) (written ttl t x))
            (cond (b && (next && not (fresh longer t x))) (clock times t) (written longer t x)))
        at true e = (after.0, λ has. after.1 (now has))
        at false e = (
          omega (arith, behind.0),
          λ has. more (behind.1 (held-before terms.capacity trace contents allowed t x within e (now has))),
        )
          where
            more : IsAhead (gain_of terms.objective x) (earned ttl t x) (earned longer t x) (written ttl t x) (written longer t x)
                → IsAhead (gain_of terms.objective x) (earned ttl t x + 0) (earned longer t x + 0) (written ttl t x) (written longer t x)
            more (inl one) = inl (omega (arith, one))
            more (inr same) = inr (omega (arith, same.0), same.1)

    all_behind : (n : ℕ) (x : Object) → n ≤ length trace → IsBehind n x
    all_behind zero x within = (omega arith, λ has. inr (omega arith, omega arith))
    all_behind (suc t) x within = step t x (omega arith) (all_behind t x (omega arith))

    -- what request t earns
    abbrev hit_at : ℕ → ℕ → ℕ
    hit_at life t = cond (is_fresh_hit terms.fills trace times life contents t) (gain_of terms.objective (request_at trace t)) 0

    pub hits-le : sum_by (hit_at ttl) (numbers_of trace) ≤ sum_by (hit_at longer) (numbers_of trace)
    hits-le =
        let n : ℕ = length trace in
        let objects : List Object = objects_of trace in
        omega (
          arith,
          sum_by-range_le (hit_at ttl) (λ t. sum_by (λ x. earned_at ttl x t) objects) 0 n (λ t low high. own t (omega arith)),
          sum_by-so_far (earned_at ttl) objects n,
          sum_by-le-sum_by (earned ttl n) (earned longer n) objects (λ x. (all_behind n x (omega arith)).0),
          sum_by-so_far (earned_at longer) objects n,
          sum_by-le-sum_by (λ t. sum_by (λ x. earned_at longer x t) objects) (hit_at longer) (numbers_of trace)
              (λ t. asked-only trace (λ x. cond (fresh longer t x) (gain_of terms.objective x) 0) t),
        )
      where
        own : (t : ℕ) → t < length trace → hit_at ttl t ≤ sum_by (λ x. earned_at ttl x t) (objects_of trace)
        own t within =
            let same : earned_at ttl (request_at trace t) t ≡ hit_at ttl t
            = ap (λ b. cond b (hit_at ttl t) 0) (same_object-refl (request_at trace t)) in
            omega (arith, same, asked-le trace (λ x. earned_at ttl x t) t within)

-- without a warm-up each fresh hit counts
score-fresh : (terms : Terms) (trace : List Object) (times : List ℕ) (ttl : ℕ) (contents : List (List Object)) → terms.warmup ≡ 0
    → score_with_ttl terms trace times ttl contents
    ≡ sum_by (λ t. cond (is_fresh_hit terms.fills trace times ttl contents t) (gain_of terms.objective (request_at trace t)) 0) (numbers_of trace)
score-fresh terms trace times ttl contents none =
    sum_by-agree
    (λ t. cond (counts terms t && is_fresh_hit terms.fills trace times ttl contents t) (gain_of terms.objective (request_at trace t)) 0)
    (λ t. cond (is_fresh_hit terms.fills trace times ttl contents t) (gain_of terms.objective (request_at trace t)) 0) (numbers_of trace)
    (λ t. at (nat_le terms.warmup t) (only_fills terms.fills t) (holds (before_request contents t) (request_at trace t)) _ (gain_of terms.objective (request_at trace t))
    (le-leb terms.warmup t (omega (arith, none))))
  where
    at : (past fills was low : Bool) (n : ℕ) → past ≡ true
        → cond ((past && not fills) && (was && not fills && low)) n 0 ≡ cond (was && not fills && low) n 0
    at true true true low n e = refl
    at true true false low n e = refl
    at true false was low n e = refl
    at false fills was low n e = absurd (both_ways false refl e)

pub longer_scores_more : LongerScoresMore
longer_scores_more terms trace times ttl longer contents allowed none low =
    omega (
      arith,
      score-fresh terms trace times ttl contents none,
      score-fresh terms trace times longer contents none,
      hits-le terms trace times contents allowed ttl longer low,
    )
