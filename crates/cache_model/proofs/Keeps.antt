-- The contents of keeps follow the rules of play, wherever they fit.
use Rattle.std.proofs.Common.{◌≡◌, ◌≢◌, ℕ, suc, zero, ◌+◌, ◌<◌, ◌≤◌, ◌∙◌, sym, refl, ap, subst, Bool, true, false, not, cond, List, [], ◌∷◌, length, arith, inl, inr, ◌⊎◌, ⊎_elim, Some, All, AllPairs, Contains, filter, map, slice_get, slice_range}
use Rattle.std.specs.List.{range_with_len, list_any, IsDistinct, AllByRecursion}
use Rattle.std.proofs.lemmas.Bool.{cases_Bool, cases_eq, both_ways, and_parts, and_from, not-true}
use Rattle.std.proofs.lemmas.List.Elements.{All-nil, All-cons, All-map, All-contains, All-from_get_or, recursion_from_All, Contains-get_or, Contains-append_right}
use Rattle.std.proofs.lemmas.List.FromFn.{length-map-range_with_len, get_or-map-range_with_len}
use Rattle.std.proofs.lemmas.Option.{slice_get-get_or}
use Rattle.std.proofs.lemmas.Map.Made.{AllPairs-from_IsDistinct}
use Rattle.cache_model.specs.declared.objects.Object.{Object}
use Rattle.cache_model.specs.Claim.{same_object, total_size, before_request, IsAllowed, request_at, no_object, is_kept, is_held, held_before, contents_of}
use Rattle.cache_model.proofs.Duality.{same_object-true}
use Rattle.cache_model.proofs.Steps.{same_object-from}
use Rattle.cache_model.proofs.Eligible.{list_any-range_false, list_any-range_true}

-- what holds of each number of a range that passes holds of each that is filtered
pub All-filter_range : (P : ℕ → Type 0) (p : ℕ → Bool) (a n : ℕ) → ((k : ℕ) → a ≤ k → k < a + n → p k ≡ true → P k) → All P (filter p (range_with_len a n))
All-filter_range P p a zero each = All-nil P
All-filter_range P p a (suc n) each = at (p a) refl (All-filter_range P p (a + 1) n (λ k low high. each k (omega arith) (omega arith)))
  where
    at : (t : Bool) → p a ≡ t → All P (filter p (range_with_len (a + 1) n)) → All P (cond t (a ∷ filter p (range_with_len (a + 1) n)) (filter p (range_with_len (a + 1) n)))
    at true e rest = All-cons P a (filter p (range_with_len (a + 1) n)) (each a (omega arith) (omega arith) e) rest
    at false e rest = rest

-- a number that passes is among those that are filtered
pub Contains-filter_range : {X : Type 0} (f : ℕ → X) (p : ℕ → Bool) (k a n : ℕ) → a ≤ k → k < a + n → p k ≡ true → Contains (map f (filter p (range_with_len a n))) (f k)
Contains-filter_range f p k a zero low high pass = absurd (omega arith)
Contains-filter_range f p k a (suc n) low high pass =
    at (p a) refl (⊎_elim (λ (e : a ≡ k). inl e) (λ (ne : a ≢ k). inr (Contains-filter_range f p k (a + 1) n (omega arith) (omega arith) pass)) (cases_eq a k))
  where
    rest : List ℕ
    rest = filter p (range_with_len (a + 1) n)

    at : (t : Bool) → p a ≡ t → (a ≡ k) ⊎ Contains (map f rest) (f k) → Contains (map f (cond t (a ∷ rest) rest)) (f k)
    at true e (inl here) = subst (λ m. Contains (map f (a ∷ rest)) (f m)) here (Contains-get_or (map f (a ∷ rest)) 0 (f a) (omega arith))
    at true e (inr later) = Contains-append_right (f a ∷ []) (map f rest) (f k) later
    at false e (inl here) = absurd (both_ways (p a) e (ap p here ∙ pass))
    at false e (inr later) = later

-- the objects that are held, each with its request
abbrev pub IsHeldAt : List Object → List Bool → ℕ → Object → Type 0
IsHeldAt trace keeps t x = (a : ℕ) × (a < t) × (is_held trace keeps t a ≡ true) × (request_at trace a ≡ x)

pub held-member : (trace : List Object) (keeps : List Bool) (t : ℕ) (x : Object) → Contains (held_before trace keeps t) x → IsHeldAt trace keeps t x
held-member trace keeps t x m =
    let P : Object → Type 0 = IsHeldAt trace keeps t in
    All-contains P (held_before trace keeps t) x
    (All-map P (request_at trace) (filter (is_held trace keeps t) (range_with_len 0 t))
    (All-filter_range (λ a. P (request_at trace a)) (is_held trace keeps t) 0 t (λ k low high e. (k, omega arith, e, refl)))) m

-- no request after a held one, up to t, is of its object
held-apart : (trace : List Object) (keeps : List Bool) (t a k : ℕ) → t ≤ length trace → is_held trace keeps t a ≡ true → a < k → k < t
    → same_object (request_at trace a) (request_at trace k) ≡ false
held-apart trace keeps t a k within held low high =
    let p : Object → Bool = same_object (request_at trace a) in
    let parts : (is_kept keeps a ≡ true) × (not (list_any p (slice_range trace (a + 1) t)) ≡ true) = and_parts _ _ held in
    ⊎_elim
    (λ (same : p (request_at trace k) ≡ true). absurd (both_ways _ (not-true _ parts.1) (list_any-range_true p trace no_object (a + 1) t k (omega arith) high within same)))
    (λ (no : p (request_at trace k) ≡ false). no)
    (cases_Bool (p (request_at trace k)))

-- what is held after request t and is not that request was held before it
held-before : (trace : List Object) (keeps : List Bool) (t a : ℕ) → t < length trace → a < t → is_held trace keeps (t + 1) a ≡ true → is_held trace keeps t a ≡ true
held-before trace keeps t a within low held =
    let p : Object → Bool = same_object (request_at trace a) in
    let parts : (is_kept keeps a ≡ true) × (not (list_any p (slice_range trace (a + 1) (t + 1))) ≡ true) = and_parts _ _ held in
    and_from _ _ parts.0 (ap not (list_any-range_false p trace no_object (a + 1) t (omega arith)
    (λ k l h. held-apart trace keeps (t + 1) a k (omega arith) held (omega arith) (omega arith))))

pub held-distinct : (trace : List Object) (keeps : List Bool) (t a n : ℕ) → t ≤ length trace → a + n ≤ t
    → IsDistinct same_object (map (request_at trace) (filter (is_held trace keeps t) (range_with_len a n)))
unfolding IsDistinct
held-distinct trace keeps t a zero within room = tt
held-distinct trace keeps t a (suc n) within room =
    at (is_held trace keeps t a) refl (held-distinct trace keeps t (a + 1) n within (omega arith))
  where
    rest : List ℕ
    rest = filter (is_held trace keeps t) (range_with_len (a + 1) n)

    apart : is_held trace keeps t a ≡ true → AllByRecursion (λ y. same_object (request_at trace a) y ≡ false) (map (request_at trace) rest)
    apart e =
        let P : Object → Type 0 = λ y. same_object (request_at trace a) y ≡ false in
        recursion_from_All P (map (request_at trace) rest)
        (All-map P (request_at trace) rest
        (All-filter_range (λ k. P (request_at trace k)) (is_held trace keeps t) (a + 1) n (λ k low high _. held-apart trace keeps t a k within e (omega arith) (omega arith))))

    at : (b : Bool) → is_held trace keeps t a ≡ b → IsDistinct same_object (map (request_at trace) rest) → IsDistinct same_object (map (request_at trace) (cond b (a ∷ rest) rest))
    at true e more = (apart e, more)
    at false e more = more

held_at : (trace : List Object) (keeps : List Bool) (t : ℕ) → t ≤ length trace → before_request (contents_of trace keeps) t ≡ held_before trace keeps t
held_at trace keeps t within = get_or-map-range_with_len (held_before trace keeps) 0 (length trace + 1) t t [] (omega arith) (omega arith)

All-contents : (P : List Object → Type 0) (trace : List Object) (keeps : List Bool) → ((t : ℕ) → t ≤ length trace → P (held_before trace keeps t)) → All P (contents_of trace keeps)
All-contents P trace keeps each =
    let size : length (contents_of trace keeps) ≡ length trace + 1 = length-map-range_with_len (held_before trace keeps) 0 (length trace + 1) in
    All-from_get_or P (contents_of trace keeps) []
    (λ t lt. subst P (sym (held_at trace keeps t (omega arith))) (each t (omega arith)))

pub contents_of_keeps : (trace : List Object) (capacity : ℕ) (keeps : List Bool)
    → ((t : ℕ) → t ≤ length trace → total_size (held_before trace keeps t) ≤ capacity)
    → IsAllowed capacity trace (contents_of trace keeps)
contents_of_keeps trace capacity keeps fits = record {
  one_more_than_requests = length-map-range_with_len (held_before trace keeps) 0 (length trace + 1);
  empty_at_first = held_at trace keeps 0 (omega arith);
  only_requests_enter = λ t lt x m.
      let after : Contains (held_before trace keeps (t + 1)) x = subst (λ xs. Contains xs x) (held_at trace keeps (t + 1) (omega arith)) m in
      enters t lt x (held-member trace keeps (t + 1) x after);
  within_capacity = All-contents (λ held. total_size held ≤ capacity) trace keeps fits;
  without_repeats = All-contents (AllPairs (λ x y. x ≢ y)) trace keeps
      (λ t within. AllPairs-from_IsDistinct (λ a b. (same_object-true a b, same_object-from a b)) (held_before trace keeps t) (held-distinct trace keeps t 0 t within (omega arith)));
}
  where
    enters : (t : ℕ) → t < length trace → (x : Object) → IsHeldAt trace keeps (t + 1) x → Contains (before_request (contents_of trace keeps) t) x ⊎ (slice_get trace t ≡ Some x)
    enters t lt x (a, low, held, same) =
        ⊎_elim
        (λ (e : a ≡ t). inr (slice_get-get_or trace t no_object lt ∙ ap Some (ap (request_at trace) (sym e) ∙ same)))
        (λ (ne : a ≢ t). inl
        (subst (λ xs. Contains xs x) (sym (held_at trace keeps t (omega arith)))
        (subst (Contains (held_before trace keeps t)) same
        (Contains-filter_range (request_at trace) (is_held trace keeps t) a 0 t (omega arith) (omega arith) (held-before trace keeps t a lt (omega arith) held)))))
        (cases_eq a t)
