-- What counts with a stricter freshness counts with a laxer one, and so contents score no less there.
use Rattle.std.proofs.Common.{◌≡◌, ℕ, ◌<◌, ◌≤◌, ◌∙◌, sym, refl, ap, Bool, true, false, ◌&&◌, ◌||◌, not, cond, nat_le, List, [], ◌∷◌, length, arith, ⊎_elim, None, Some}
use Rattle.std.specs.declared.option.Option.{Option}
use Rattle.std.specs.List.{list_any, range_with_len}
use Rattle.std.proofs.Math.Nat.{mul-le-mul_left}
use Rattle.std.proofs.lemmas.Bool.{cases_lt, both_ways, or_cases, or_left, or_right, lt-ltb, ltb-true}
use Rattle.std.proofs.lemmas.List.{get_or_past}
use Rattle.std.proofs.lemmas.List.FromFn.{length-map-range_with_len, get_or-map-range_with_len}
use Rattle.std.proofs.lemmas.List.Sums.{sum_by-le-sum_by}
use Rattle.cache_model.specs.declared.objects.Object.{Object}
use Rattle.cache_model.specs.Claim.{Terms, counts, terms_from, before_request, gain_of, holds, is_latest, only_fills, request_at, same_object}
use Rattle.cache_model.specs.Objects.{is_first, numbers_of}
use Rattle.cache_model.proofs.Headline.{valid_bounds}
use Rattle.freshness.specs.declared.fresh.Freshness.{Freshness}
use Rattle.freshness.specs.Stale.{is_older, has_expired, is_replaced, is_stale, stale_after, stale_marks}
use Rattle.expiry_laws.specs.Laws.{IsLonger, IsLaxer, LaxerScoresMore, LaxerBounds}

-- what is older than a longer time is older than a shorter one
older : (idle longer : Option ℕ) (times : List ℕ) (a t : ℕ) → IsLonger idle longer → is_older longer times a t ≡ true → is_older idle times a t ≡ true
older idle None times a t low stale = absurd (both_ways false refl stale)
older None (Some longer) times a t low stale = absurd low
older (Some idle) (Some longer) times a t low stale = lt-ltb _ _ (omega (arith, low, ltb-true _ _ stale))

-- if a test holds of one element, so does a weaker one
list_any-weaker : {X : Type 0} (p q : X → Bool) (xs : List X) → ((x : X) → p x ≡ true → q x ≡ true) → list_any p xs ≡ true → list_any q xs ≡ true
list_any-weaker p q [] weaker some = absurd (both_ways false refl some)
list_any-weaker p q (x ∷ xs) weaker some =
    ⊎_elim
    (λ (first : p x ≡ true). or_left (q x) (list_any q xs) (weaker x first))
    (λ (later : list_any p xs ≡ true). or_right (q x) (list_any q xs) (list_any-weaker p q xs weaker later))
    (or_cases (p x) (list_any p xs) some)

-- an object that has expired after a longer time has after a shorter one
expired : (idle longer : Option ℕ) (trace : List Object) (times : List ℕ) (t : ℕ) → IsLonger idle longer → has_expired longer trace times t ≡ true → has_expired idle trace times t ≡ true
expired idle longer trace times t low =
    list_any-weaker
    (λ a. same_object (request_at trace a) (request_at trace t) && is_latest trace t a && is_older longer times a t)
    (λ a. same_object (request_at trace a) (request_at trace t) && is_latest trace t a && is_older idle times a t) (range_with_len 0 t)
    (λ a is. weaker (same_object (request_at trace a) (request_at trace t)) (is_latest trace t a) _ _ (older idle longer times a t low) is)
  where
    weaker : (same latest x y : Bool) → (x ≡ true → y ≡ true) → (same && latest && x) ≡ true → (same && latest && y) ≡ true
    weaker true true x y more is = more is
    weaker true false x y more is = is
    weaker false latest x y more is = is

-- what is stale by a laxer freshness is by a stricter one
stale : (strict lax : Freshness) (trace : List Object) (times : List ℕ) (t : ℕ) → IsLaxer strict lax → is_stale lax trace times t ≡ true → is_stale strict trace times t ≡ true
stale strict lax trace times t laxer =
    weaker (not (is_first trace t)) (has_expired (stale_after lax) trace times t) (has_expired (stale_after strict) trace times t) lax.replace strict.replace (is_replaced trace t)
    (expired (stale_after strict) (stale_after lax) trace times t laxer.longer) laxer.replace
  where
    weaker : (before old older lax strict other : Bool) → (old ≡ true → older ≡ true) → (lax ≡ true → strict ≡ true)
        → (before && (old || (lax && other))) ≡ true → (before && (older || (strict && other))) ≡ true
    weaker false old older lax strict other more less is = is
    weaker true true older lax strict other more less is = or_left older (strict && other) (more refl)
    weaker true false older true strict other more less is = or_right older (strict && other) (ap (λ s. s && other) (less refl) ∙ is)
    weaker true false older false strict other more less is = absurd (both_ways false refl is)

-- whether a request only fills, by the marks with the stale requests
marks : (fresh : Freshness) (trace : List Object) (times : List ℕ) (fills : List Bool) (t : ℕ) → t < length trace
    → only_fills (stale_marks fresh trace times fills) t ≡ (only_fills fills t || is_stale fresh trace times t)
marks fresh trace times fills t within = get_or-map-range_with_len (λ k. only_fills fills k || is_stale fresh trace times k) 0 (length trace) t t false (omega arith) (omega arith)

-- a request that only fills by the laxer marks only fills by the stricter ones
fills_too : (strict lax : Freshness) (trace : List Object) (times : List ℕ) (fills : List Bool) (t : ℕ) → IsLaxer strict lax
    → only_fills (stale_marks lax trace times fills) t ≡ true → only_fills (stale_marks strict trace times fills) t ≡ true
fills_too strict lax trace times fills t laxer only =
    ⊎_elim
    (λ (within : t < length trace).
    marks strict trace times fills t within
    ∙ weaker (only_fills fills t) (is_stale lax trace times t) (is_stale strict trace times t) (stale strict lax trace times t laxer) (sym (marks lax trace times fills t within) ∙ only))
    (λ (past : length trace ≤ t).
    let marked : ℕ → Bool = λ k. only_fills fills k || is_stale lax trace times k in
    absurd (both_ways _ (get_or_past (stale_marks lax trace times fills) t false (omega (arith, length-map-range_with_len marked 0 (length trace)))) only))
    (cases_lt t (length trace))
  where
    weaker : (own x y : Bool) → (x ≡ true → y ≡ true) → (own || x) ≡ true → (own || y) ≡ true
    weaker true x y more is = refl
    weaker false x y more is = more is

-- a hit earns no less if its request only fills less often
earns : (past x y hit : Bool) (gain : ℕ) → (y ≡ true → x ≡ true) → cond ((past && not x) && hit) gain 0 ≤ cond ((past && not y) && hit) gain 0
earns false x y hit gain less = omega arith
earns true true y hit gain less = omega arith
earns true false false hit gain less = omega arith
earns true false true hit gain less = absurd (both_ways false refl (less refl))

-- what a request earns in these terms
abbrev earned : Terms → List Object → List (List Object) → ℕ → ℕ
earned terms trace contents t = cond (counts terms t && holds (before_request contents t) (request_at trace t)) (gain_of terms.objective (request_at trace t)) 0

pub laxer_scores_more : LaxerScoresMore
laxer_scores_more strict lax objective capacity warmup fills trace times contents laxer =
    let strictly : List Bool = stale_marks strict trace times fills in
    let laxly : List Bool = stale_marks lax trace times fills in
    sum_by-le-sum_by
    (earned (terms_from objective capacity warmup strictly) trace contents)
    (earned (terms_from objective capacity warmup laxly) trace contents) (numbers_of trace)
    (λ t. earns (nat_le warmup t) (only_fills strictly t) (only_fills laxly t) (holds (before_request contents t) (request_at trace t)) (gain_of objective (request_at trace t))
    (fills_too strict lax trace times fills t laxer))

pub laxer_bounds_stricter : LaxerBounds
laxer_bounds_stricter strict lax fills trace times h records contents laxer valid allowed =
    omega (
      arith,
      mul-le-mul_left h.denominator (laxer_scores_more strict lax h.objective h.capacity h.warmup fills trace times contents laxer),
      (valid_bounds trace (stale_marks lax trace times fills) h records valid).no_policy_scores_more contents allowed,
    )
