-- What was asked for too long ago was written too long ago: so marks of what is stale by an idle time change no score with a ttl.
use Rattle.std.proofs.Common.{◌≡◌, ℕ, zero, suc, ◌+◌, ◌<◌, ◌≤◌, ◌∙◌, sym, refl, ap, max, Bool, true, false, not, ◌&&◌, ◌||◌, cond, nat_le, List, [], ◌∷◌, length, arith, ⊎_elim, fold, get_or, take, None, Some, Any}
use Rattle.std.specs.List.{list_any, range_with_len}
use Rattle.std.proofs.Math.Nat.{le-max_left, mul-le-mul_left}
use Rattle.std.proofs.lemmas.Bool.{cases_eq, cases_Bool, both_ways, and_parts, leb-true, ltb-true}
use Rattle.std.proofs.lemmas.List.Folds.{Any-from_list_any}
use Rattle.std.proofs.lemmas.List.FromFn.{get_or-map-range_with_len, get_or-range_with_len, length-range_with_len}
use Rattle.std.proofs.lemmas.List.Sums.{fold_more, sum_by-le-sum_by}
use Rattle.cache_model.specs.declared.objects.Object.{Object}
use Rattle.cache_model.specs.Claim.{Terms, counts, before_request, gain_of, holds, is_latest, no_object, only_fills, request_at, same_object, score, terms_of}
use Rattle.cache_model.specs.Objects.{is_first, numbers_of}
use Rattle.cache_model.proofs.Duality.{same_object-true, same_object-refl}
use Rattle.cache_model.proofs.Eligible.{list_any-range_true}
use Rattle.cache_model.proofs.Headline.{valid_bounds}
use Rattle.cache_model.proofs.Pairs.{same_object-sym}
use Rattle.cache_model.proofs.Streams.{sum_by-range_agree}
use Rattle.freshness.specs.declared.fresh.Freshness.{Freshness}
use Rattle.freshness.specs.Stale.{clock, is_older, has_expired, is_replaced, is_stale, stale_marks}
use Rattle.ttl_laws.specs.Fresh.{hits_fresh, writes_anew, written_at, is_fresh_hit, score_with_ttl}
use Rattle.ttl_laws.specs.Laws.{marked_stale, IdleAddsNothing, IdleBoundsTtl, IdleCertificatesBoundTtl}

-- the greatest of more times is no less
pub greatest-more : (a k : ℕ) (xs : List ℕ) → fold max a (take k xs) ≤ fold max a (take (suc k) xs)
greatest-more a zero [] = omega arith
greatest-more a (suc k) [] = omega arith
greatest-more a zero (x ∷ xs) = le-max_left a x
greatest-more a (suc k) (x ∷ xs) = greatest-more (max a x) k xs

-- the greatest time before request n
abbrev pub clock_before : List ℕ → ℕ → ℕ
clock_before times n = fold max 0 (take n times)

pub clock-next : (times : List ℕ) (t : ℕ) → clock times t ≡ clock_before times (suc t)
clock-next times t = let e : t + 1 ≡ suc t = omega arith in ap (clock_before times) e

-- it is the greater of the clock so far and the time
pub clock-more : (times : List ℕ) (t before after : ℕ) → t < length times → before ≡ clock_before times t → after ≡ max before (get_or times t 0)
    → after ≡ clock times t
clock-more times t before after within before_is after_is =
    after_is ∙ ap (λ c. max c (get_or times t 0)) before_is ∙ sym (fold_more max 0 times t 0 within)

module _ (fills : List Bool) (trace : List Object) (times : List ℕ) (ttl : ℕ) (contents : List (List Object)) where
  abbrev written : ℕ → Object → ℕ
  written n x = written_at fills trace times ttl contents n x

  -- the clock at the last write is none later than the requests so far
  pub written-le : (n : ℕ) (x : Object) → written n x ≤ clock_before times n
  written-le zero x = omega arith
  written-le (suc t) x =
      at (same_object (request_at trace t) x && writes_anew fills times ttl contents t x (written t x)) (written-le t x)
    where
      at : (b : Bool) → written t x ≤ clock_before times t → cond b (clock times t) (written t x) ≤ clock_before times (suc t)
      at true earlier = omega (arith, clock-next times t)
      at false earlier = omega (arith, earlier, greatest-more 0 t times)

  -- nor than the last request of the object
  written-le_latest : (a n : ℕ) (x : Object) → a < n
      → ((k : ℕ) → a < k → k < n → same_object (request_at trace k) x ≡ false) → written n x ≤ clock times a
  written-le_latest a zero x low others = absurd (omega arith)
  written-le_latest a (suc t) x low others =
      ⊎_elim
      (λ (here : t ≡ a).
      omega (arith, written-le (suc t) x, clock-next times t, ap (clock times) here))
      (λ (other : t ≡ a → ⊥).
      let past : written (suc t) x ≡ written t x
      = ap (λ b. cond (b && writes_anew fills times ttl contents t x (written t x)) (clock times t) (written t x))
      (others t (omega arith) (omega arith)) in
      omega (arith, past, written-le_latest a t x (omega arith) (λ k l h. others k l (omega arith))))
      (cases_eq t a)

  -- so what has expired since it was asked for was not written within the ttl
  expired_too : (idle t : ℕ) → ttl ≤ idle → t ≤ length trace → has_expired (Some idle) trace times t ≡ true
      → nat_le (clock times t) (written t (request_at trace t) + ttl) ≡ true → ⊥
  expired_too idle t longer within expired fresh =
      at (Any-from_list_any passes (range_with_len 0 t) expired)
    where
      passes : ℕ → Bool
      passes a = same_object (request_at trace a) (request_at trace t) && is_latest trace t a && is_older (Some idle) times a t

      old : (a : ℕ) → a < t → passes a ≡ true → ⊥
      old a low is =
          let parts : ((same_object (request_at trace a) (request_at trace t) && is_latest trace t a) ≡ true) × (is_older (Some idle) times a t ≡ true)
          = and_parts _ _ is in
          let of_object : (same_object (request_at trace a) (request_at trace t) ≡ true) × (is_latest trace t a ≡ true)
          = and_parts _ _ parts.0 in
          let x : Object = request_at trace t in
          omega (
            arith,
            ltb-true (clock times a + idle) (clock times t) parts.1,
            leb-true (clock times t) (written t x + ttl) fresh,
            written-le_latest a t x low
                (others a (same_object-true (request_at trace a) x of_object.0) of_object.1),
          )
        where
          others : (a : ℕ) → request_at trace a ≡ request_at trace t → is_latest trace t a ≡ true
              → (k : ℕ) → a < k → k < t → same_object (request_at trace k) (request_at trace t) ≡ false
          others a own latest k after before =
              let x : Object = request_at trace t in
              ⊎_elim
              (λ (same : same_object (request_at trace k) x ≡ true).
              let again : same_object (request_at trace a) (request_at trace k) ≡ true
              = ap (λ y. same_object y (request_at trace k)) own ∙ same_object-sym x (request_at trace k) ∙ same in
              absurd (both_ways (is_latest trace t a)
              (ap not (list_any-range_true (same_object (request_at trace a)) trace no_object (a + 1) t k (omega arith) before within again))
              latest))
              (λ (differs : same_object (request_at trace k) x ≡ false). differs)
              (cases_Bool (same_object (request_at trace k) x))

      at : Any (λ a. passes a ≡ true) (range_with_len 0 t) → ⊥
      at (k, y, low, e, is) =
          old y (omega (arith, low, length-range_with_len 0 t, e, get_or-range_with_len 0 t k y (omega (arith, low, length-range_with_len 0 t)))) is

-- nothing expires without an idle time
never_expired : (trace : List Object) (times : List ℕ) (t : ℕ) → has_expired None trace times t ≡ false
never_expired trace times t =
    none (range_with_len 0 t)
  where
    and_false : (b : Bool) → (b && false) ≡ false
    and_false true = refl
    and_false false = refl

    none : (xs : List ℕ)
        → list_any (λ a. same_object (request_at trace a) (request_at trace t) && is_latest trace t a && is_older None times a t) xs ≡ false
    none [] = refl
    none (a ∷ xs) =
        ap (λ b. b || list_any (λ a. same_object (request_at trace a) (request_at trace t) && is_latest trace t a && false) xs)
        (and_false (same_object (request_at trace a) (request_at trace t) && is_latest trace t a))
        ∙ none xs

-- whether a request only fills, by the marks with the stale requests
marks : (fresh : Freshness) (trace : List Object) (times : List ℕ) (fills : List Bool) (t : ℕ) → t < length trace
    → only_fills (stale_marks fresh trace times fills) t ≡ (only_fills fills t || is_stale fresh trace times t)
marks fresh trace times fills t within =
    get_or-map-range_with_len (λ k. only_fills fills k || is_stale fresh trace times k) 0 (length trace) t t false (omega arith) (omega arith)

module _ (terms : Terms) (trace : List Object) (times : List ℕ) (ttl idle : ℕ) (replace : Bool) (contents : List (List Object))
    (longer : ttl ≤ idle) where
  abbrev plain : List Bool
  plain = stale_marks (record { idle = None; ttl = None; replace = replace }) trace times terms.fills

  abbrev aged : List Bool
  aged = stale_marks (record { idle = Some idle; ttl = None; replace = replace }) trace times terms.fills

  abbrev last : ℕ → Object → ℕ
  last n x = written_at plain trace times ttl contents n x

  -- a request within the ttl of the last write only fills by both marks, or by none
  same_marks : (t : ℕ) → t < length trace → nat_le (clock times t) (last t (request_at trace t) + ttl) ≡ true
      → only_fills aged t ≡ only_fills plain t
  same_marks t within fresh =
      ⊎_elim
      (λ (expired : has_expired (Some idle) trace times t ≡ true).
      absurd (expired_too plain trace times ttl contents idle t longer (omega arith) expired fresh))
      (λ (not_yet : has_expired (Some idle) trace times t ≡ false).
      marks (record { idle = Some idle; ttl = None; replace = replace }) trace times terms.fills t within
      ∙ ap (stale_by t) (not_yet ∙ sym (never_expired trace times t))
      ∙ sym (marks (record { idle = None; ttl = None; replace = replace }) trace times terms.fills t within))
      (cases_Bool (has_expired (Some idle) trace times t))
    where
      stale_by : ℕ → Bool → Bool
      stale_by t expired = only_fills terms.fills t || (not (is_first trace t) && (expired || (replace && is_replaced trace t)))

  same_hits : (t : ℕ) (x : Object) → t < length trace → same_object (request_at trace t) x ≡ true
      → hits_fresh aged times ttl contents t x (last t x) ≡ hits_fresh plain times ttl contents t x (last t x)
  same_hits t x within own = at (holds (before_request contents t) x) (nat_le (clock times t) (last t x + ttl)) refl
    where
      here : nat_le (clock times t) (last t x + ttl) ≡ true → only_fills aged t ≡ only_fills plain t
      here fresh =
          same_marks t within (ap (λ y. nat_le (clock times t) (last t y + ttl)) (same_object-true (request_at trace t) x own) ∙ fresh)

      at : (was low : Bool) → nat_le (clock times t) (last t x + ttl) ≡ low
          → (was && not (only_fills aged t) && low) ≡ (was && not (only_fills plain t) && low)
      at was true e = ap (λ b. was && not b && true) (here e)
      at was false e = none was (not (only_fills aged t)) ∙ sym (none was (not (only_fills plain t)))
        where
          none : (a b : Bool) → (a && b && false) ≡ false
          none true true = refl
          none true false = refl
          none false b = refl

  -- so the last writes are the same
  same_writes : (n : ℕ) (x : Object) → n ≤ length trace → written_at aged trace times ttl contents n x ≡ last n x
  same_writes zero x low = refl
  same_writes (suc t) x low =
      ap (λ w. cond (same_object (request_at trace t) x && writes_anew aged times ttl contents t x w) (clock times t) w) (same_writes t x (omega arith))
      ∙ at (same_object (request_at trace t) x) refl
    where
      at : (b : Bool) → same_object (request_at trace t) x ≡ b
          → cond (b && writes_anew aged times ttl contents t x (last t x)) (clock times t) (last t x)
          ≡ cond (b && writes_anew plain times ttl contents t x (last t x)) (clock times t) (last t x)
      at true e =
          ap (λ h. cond (holds (before_request contents (t + 1)) x && not h) (clock times t) (last t x)) (same_hits t x (omega arith) e)
      at false e = refl

  same_fresh : (t : ℕ) → t < length trace
      → is_fresh_hit aged trace times ttl contents t ≡ is_fresh_hit plain trace times ttl contents t
  same_fresh t within =
      let x : Object = request_at trace t in
      ap (hits_fresh aged times ttl contents t x) (same_writes t x (omega arith))
      ∙ same_hits t x within (same_object-refl x)

  -- what a request earns by marks
  abbrev earned : List Bool → ℕ → ℕ
  earned fills t =
      cond ((nat_le terms.warmup t && not (only_fills fills t)) && is_fresh_hit fills trace times ttl contents t)
      (gain_of terms.objective (request_at trace t)) 0

  same_earned : (t : ℕ) → t < length trace → earned aged t ≡ earned plain t
  same_earned t within =
      let x : Object = request_at trace t in
      ap (λ h. cond ((nat_le terms.warmup t && not (only_fills aged t)) && h) (gain_of terms.objective x) 0) (same_fresh t within)
      ∙ at (holds (before_request contents t) x) (nat_le (clock times t) (last t x + ttl)) (same_marks t within)
    where
      value : Bool → Bool → Bool → Bool → ℕ
      value a b was low =
          cond ((nat_le terms.warmup t && not a) && (was && not b && low)) (gain_of terms.objective (request_at trace t)) 0

      none : (a b : Bool) (n : ℕ) → cond (a && (b && false)) n 0 ≡ 0
      none true true n = refl
      none true false n = refl
      none false b n = refl

      at : (was low : Bool) → (low ≡ true → only_fills aged t ≡ only_fills plain t)
          → value (only_fills aged t) (only_fills plain t) was low ≡ value (only_fills plain t) (only_fills plain t) was low
      at was true same = ap (λ a. value a (only_fills plain t) was true) (same refl)
      at was false same =
          none (nat_le terms.warmup t && not (only_fills aged t)) (was && not (only_fills plain t)) (gain_of terms.objective (request_at trace t))
          ∙ sym (none (nat_le terms.warmup t && not (only_fills plain t)) (was && not (only_fills plain t)) (gain_of terms.objective (request_at trace t)))

pub idle_adds_nothing : IdleAddsNothing
idle_adds_nothing terms trace times ttl idle replace contents longer =
    sum_by-range_agree (earned terms trace times ttl idle replace contents longer (aged terms trace times ttl idle replace contents longer))
    (earned terms trace times ttl idle replace contents longer (plain terms trace times ttl idle replace contents longer)) 0 (length trace)
    (λ t low high. same_earned terms trace times ttl idle replace contents longer t (omega arith))

-- a fresh hit is a hit
fresh-le : (terms : Terms) (trace : List Object) (times : List ℕ) (ttl : ℕ) (contents : List (List Object))
    → score_with_ttl terms trace times ttl contents ≤ score terms trace contents
fresh-le terms trace times ttl contents =
    sum_by-le-sum_by
    (λ t. cond (counts terms t && is_fresh_hit terms.fills trace times ttl contents t) (gain_of terms.objective (request_at trace t)) 0)
    (λ t. cond (counts terms t && holds (before_request contents t) (request_at trace t)) (gain_of terms.objective (request_at trace t)) 0)
    (numbers_of trace)
    (λ t. at (counts terms t) (holds (before_request contents t) (request_at trace t)) (not (only_fills terms.fills t)) _ (gain_of terms.objective (request_at trace t)))
  where
    at : (counted was reads low : Bool) (n : ℕ) → cond (counted && (was && reads && low)) n 0 ≤ cond (counted && was) n 0
    at false was reads low n = omega arith
    at true false reads low n = omega arith
    at true true true true n = omega arith
    at true true true false n = omega arith
    at true true false low n = omega arith

pub idle_bounds_ttl : IdleBoundsTtl
idle_bounds_ttl terms trace times ttl idle replace contents longer =
    omega (
      arith,
      idle_adds_nothing terms trace times ttl idle replace contents longer,
      fresh-le (marked_stale terms (Some idle) replace trace times) trace times ttl contents,
    )

pub idle_certificates_bound_ttl : IdleCertificatesBoundTtl
idle_certificates_bound_ttl trace times fills h records ttl idle replace contents longer valid allowed =
    omega (
      arith,
      mul-le-mul_left h.denominator (idle_bounds_ttl (terms_of h fills) trace times ttl idle replace contents longer),
      (valid_bounds trace (stale_marks (record { idle = Some idle; ttl = None; replace = replace }) trace times fills) h records valid).no_policy_scores_more contents allowed,
    )
