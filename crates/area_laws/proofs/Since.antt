-- How long ago an object was asked for, and that what is held was asked for before.
use Rattle.std.proofs.Common.{◌≡◌, ℕ, zero, suc, ◌+◌, ◌-◌, ◌<◌, ◌≤◌, ◌∙◌, sym, ap, subst, true, false, cond, List, [], length, arith, ◌⊎◌, ⊎_elim, Some, Any, Contains, slice_get}
use Rattle.std.proofs.lemmas.Bool.{cases_Bool, cases_lt, both_ways}
use Rattle.std.proofs.lemmas.List.Folds.{Any-from_list_any}
use Rattle.std.proofs.lemmas.Option.{slice_get-get_or}
use Rattle.cache_model.specs.declared.objects.Object.{Object}
use Rattle.cache_model.specs.Claim.{same_object, holds, before_request, request_at, no_object}
use Rattle.cache_model.specs.Objects.{IsFirst, IsNext}
use Rattle.cache_model.proofs.Duality.{same_object-true}
use Rattle.cache_model.proofs.Scores.{first_or_next}
use Rattle.cache_model.proofs.Steps.{same_object-from}
use Rattle.area_laws.specs.Late.{IsAskedLately, IsAllowedLate}

-- how many requests before t the last one of x is; if there is none, t
abbrev pub since : List Object → ℕ → Object → ℕ
since trace zero x = 0
since trace (suc t) x = cond (same_object x (request_at trace t)) 1 (suc (since trace t x))

-- the request before is of x
pub since-same : (trace : List Object) (t : ℕ) (x : Object)
    → same_object x (request_at trace t) ≡ true → since trace (suc t) x ≡ 1
since-same trace t x e = ap (λ b. cond b 1 (suc (since trace t x))) e

-- or it is not
pub since-other : (trace : List Object) (t : ℕ) (x : Object)
    → same_object x (request_at trace t) ≡ false → since trace (suc t) x ≡ suc (since trace t x)
since-other trace t x e = ap (λ b. cond b 1 (suc (since trace t x))) e

-- no longer ago than any request of it
since-le : (trace : List Object) (x : Object) (k t : ℕ) → k < t → request_at trace k ≡ x → since trace t x ≤ t - k
since-le trace x k zero low e = absurd (omega arith)
since-le trace x k (suc t) low e =
    ⊎_elim
    (λ (same : same_object x (request_at trace t) ≡ true). omega (arith, since-same trace t x same))
    (λ (other : same_object x (request_at trace t) ≡ false).
    ⊎_elim
    (λ (before : k < t). omega (arith, since-other trace t x other, since-le trace x k t before e))
    (λ (after : t ≤ k).
    let here : k ≡ t = omega arith in
    let same : x ≡ request_at trace t = sym e ∙ ap (request_at trace) here in
    absurd (both_ways (same_object x (request_at trace t)) other (same_object-from x (request_at trace t) same)))
    (cases_lt k t))
    (cases_Bool (same_object x (request_at trace t)))

-- no request of it after u
pub since-ge : (trace : List Object) (x : Object) (u t : ℕ)
    → ((k : ℕ) → u < k → k < t → same_object x (request_at trace k) ≡ false) → t - u ≤ since trace t x
since-ge trace x u zero none = omega arith
since-ge trace x u (suc t) none =
    let before : t - u ≤ since trace t x = since-ge trace x u t (λ k low high. none k low (omega arith)) in
    ⊎_elim
    (λ (same : same_object x (request_at trace t) ≡ true).
    ⊎_elim
    (λ (later : u < t). absurd (both_ways (same_object x (request_at trace t)) (none t later (omega arith)) same))
    (λ (early : t ≤ u). omega (arith, since-same trace t x same))
    (cases_lt u t))
    (λ (other : same_object x (request_at trace t) ≡ false). omega (arith, since-other trace t x other))
    (cases_Bool (same_object x (request_at trace t)))

-- a member of the contents
Contains-from_holds : (xs : List Object) (x : Object) → holds xs x ≡ true → Contains xs x
Contains-from_holds xs x h = at (Any-from_list_any (same_object x) xs h)
  where
    at : Any (λ y. same_object x y ≡ true) xs → Contains xs x
    at (k, y, low, e, same) = let here : x ≡ y = same_object-true x y same in subst (Contains xs) (sym here) (k, low, e)

-- what is asked for at a number
request_at-from_get : (trace : List Object) (t : ℕ) (x : Object) → t < length trace
    → slice_get trace t ≡ Some x → request_at trace t ≡ x
request_at-from_get trace t x within e =
    let there : slice_get trace t ≡ Some (request_at trace t) = slice_get-get_or trace t no_object within in cc

-- what is asked for lately
request_at-lately : (delay : ℕ) (trace : List Object) (t : ℕ) (x : Object) → t < length trace
    → (lately : IsAskedLately delay trace t x) → request_at trace lately.asked ≡ x
request_at-lately delay trace t x within lately =
    let early : lately.asked ≤ t = lately.by_then in
    request_at-from_get trace lately.asked x (omega arith) lately.same

-- not longer ago than the delay
pub since-lately : (delay : ℕ) (trace : List Object) (t : ℕ) (x : Object) → t < length trace
    → IsAskedLately delay trace t x → since trace (suc t) x ≤ delay + 1
since-lately delay trace t x within lately =
    let early : lately.asked ≤ t = lately.by_then in
    let late : t ≤ lately.asked + delay = lately.lately in
    let ago : since trace (suc t) x ≤ suc t - lately.asked =
    since-le trace x lately.asked (suc t) (omega arith) (request_at-lately delay trace t x within lately) in
    omega arith

module _ (delay capacity : ℕ) (trace : List Object) (contents : List (List Object))
    (allowed : IsAllowedLate delay capacity trace contents) where
  -- what is held after request t was held before it, or is asked for lately
  pub entered : (t : ℕ) → t < length trace → (x : Object) → Contains (before_request contents (suc t)) x
      → Contains (before_request contents t) x ⊎ IsAskedLately delay trace t x
  entered t within x m =
      let e : suc t ≡ t + 1 = omega arith in
      allowed.only_lately_asked_enter t within x (subst (λ k. Contains (before_request contents k) x) e m)

  -- what is held was asked for before
  asked_before : (t : ℕ) → t ≤ length trace → (x : Object) → Contains (before_request contents t) x
      → (k : ℕ) × (k < t) × (request_at trace k ≡ x)
  asked_before zero within x m = absurd (none (subst (λ xs. Contains xs x) allowed.empty_at_first m))
    where
      none : Contains [] x → ⊥
      none (k, low, e) = omega arith
  asked_before (suc t) within x m =
      ⊎_elim
      (λ (held : Contains (before_request contents t) x).
      let found : (k : ℕ) × (k < t) × (request_at trace k ≡ x) = asked_before t (omega arith) x held in
      (found.0, omega (arith, found.1), found.2))
      (λ (lately : IsAskedLately delay trace t x).
      let early : lately.asked ≤ t = lately.by_then in
      (lately.asked, omega arith, request_at-lately delay trace t x (omega arith) lately))
      (entered t (omega arith) x m)

  -- a hit has a request of its object before it
  pub hit-next : (t : ℕ) → t < length trace → holds (before_request contents t) (request_at trace t) ≡ true
      → (u : ℕ) × IsNext trace u t
  hit-next t within hit =
      ⊎_elim
      (λ (first : IsFirst trace t).
      let x : Object = request_at trace t in
      let found : (k : ℕ) × (k < t) × (request_at trace k ≡ x) =
      asked_before t (omega arith) x (Contains-from_holds (before_request contents t) x hit) in
      let same : same_object x (request_at trace found.0) ≡ true = same_object-from x (request_at trace found.0) (sym found.2) in
      absurd (both_ways (same_object x (request_at trace found.0)) (first found.0 found.1) same))
      (λ (found : (u : ℕ) × IsNext trace u t). found)
      (first_or_next trace t within)
