-- Sums over the objects of a trace, each of which is in the list once.
use Rattle.std.proofs.Common.{◌≡◌, ℕ, zero, suc, ◌+◌, ◌<◌, ◌≤◌, ◌∙◌, sym, refl, ap, Bool, true, false, cond, List, [], ◌∷◌, length, arith, ⊎_elim, map, filter, sum_by}
use Rattle.std.specs.List.{IsDistinct, AllByRecursion, range_with_len}
use Rattle.std.proofs.lemmas.Bool.{both_ways, cases_Bool, or_left}
use Rattle.std.proofs.lemmas.List.Sums.{sum_by-cons}
use Rattle.cache_model.specs.declared.objects.Object.{Object}
use Rattle.cache_model.specs.Claim.{same_object, holds, request_at}
use Rattle.cache_model.specs.Objects.{IsFirst, IsNext, is_first, objects_of}
use Rattle.cache_model.proofs.DifferentObjects.{is_first-yes, is_first-no}
use Rattle.cache_model.proofs.Duality.{same_object-true, sum_by-subset, sum_by-without}
use Rattle.cache_model.proofs.Keeps.{Contains-filter_range}
use Rattle.cache_model.proofs.Pairs.{same_object-sym}
use Rattle.cache_model.proofs.Scores.{first_or_next}
use Rattle.cache_model.proofs.Steps.{holds-from_Contains}
use Rattle.cache_model.proofs.Sums.{sum_by-filter}

-- what holds of all holds of those that a map makes, and of those that pass a test
pub all-map : {X Y : Type 0} (P : X → Type 0) (Q : Y → Type 0) (f : X → Y) (xs : List X)
    → ((x : X) → P x → Q (f x)) → AllByRecursion P xs → AllByRecursion Q (map f xs)
all-map P Q f [] so all = tt
all-map P Q f (x ∷ xs) so all = (so x all.0, all-map P Q f xs so all.1)

pub all-pass : {X : Type 0} (P Q : X → Type 0) (p : X → Bool) (xs : List X)
    → ((x : X) → P x → p x ≡ true → Q x) → AllByRecursion P xs → AllByRecursion Q (filter p xs)
all-pass P Q p [] so all = tt
all-pass P Q p (x ∷ xs) so all = at (p x) refl (all-pass P Q p xs so all.1)
  where
    at : (b : Bool) → p x ≡ b → AllByRecursion Q (filter p xs) → AllByRecursion Q (cond b (x ∷ filter p xs) (filter p xs))
    at true e rest = (so x all.0 e, rest)
    at false e rest = rest

pub all-filter : {X : Type 0} (P : X → Type 0) (p : X → Bool) (xs : List X) → AllByRecursion P xs → AllByRecursion P (filter p xs)
all-filter P p xs = all-pass P P p xs (λ x holds_of passes. holds_of)

-- a filter keeps different objects apart
distinct-filter : (p : Object → Bool) (xs : List Object) → IsDistinct same_object xs → IsDistinct same_object (filter p xs)
unfolding IsDistinct
distinct-filter p [] apart = apart
distinct-filter p (x ∷ xs) apart =
    at (p x) (all-filter (λ y. same_object x y ≡ false) p xs apart.0) (distinct-filter p xs apart.1)
  where
    at : (b : Bool) → AllByRecursion (λ y. same_object x y ≡ false) (filter p xs) → IsDistinct same_object (filter p xs)
        → IsDistinct same_object (cond b (x ∷ filter p xs) (filter p xs))
    at true all rest = (all, rest)
    at false all rest = rest

-- what passes is a member
filter-inside : (p : Object → Bool) (ys xs : List Object) → ((x : Object) → p x ≡ true → holds ys x ≡ true)
    → AllByRecursion (λ x. holds ys x ≡ true) (filter p xs)
filter-inside p ys [] passes = tt
filter-inside p ys (x ∷ xs) passes = at (p x) refl (filter-inside p ys xs passes)
  where
    at : (b : Bool) → p x ≡ b → AllByRecursion (λ x. holds ys x ≡ true) (filter p xs)
        → AllByRecursion (λ x. holds ys x ≡ true) (cond b (x ∷ filter p xs) (filter p xs))
    at true e rest = (passes x e, rest)
    at false e rest = rest

-- a sum over those of different objects that pass is within the sum over a list that has them
pub sum_by-members : (f : Object → ℕ) (p : Object → Bool) (xs ys : List Object) → IsDistinct same_object xs
    → ((x : Object) → p x ≡ true → holds ys x ≡ true) → sum_by (λ x. cond (p x) (f x) 0) xs ≤ sum_by f ys
sum_by-members f p xs ys apart passes =
    omega (
      arith,
      sum_by-filter f p xs,
      sum_by-subset f (filter p xs) ys (distinct-filter p xs apart) (filter-inside p ys xs passes),
    )

module _ (trace : List Object) where
  -- the objects of the requests from a on that are the first of their object
  abbrev firsts : ℕ → ℕ → List Object
  firsts a n = map (request_at trace) (filter (is_first trace) (range_with_len a n))

  all-firsts : (P : Object → Type 0) (a n : ℕ)
      → ((k : ℕ) → a ≤ k → k < a + n → is_first trace k ≡ true → P (request_at trace k)) → AllByRecursion P (firsts a n)
  all-firsts P a zero each = tt
  all-firsts P a (suc n) each =
      at (is_first trace a) refl (all-firsts P (a + 1) n (λ k low high. each k (omega arith) (omega arith)))
    where
      at : (b : Bool) → is_first trace a ≡ b → AllByRecursion P (firsts (a + 1) n)
          → AllByRecursion P (map (request_at trace) (cond b (a ∷ filter (is_first trace) (range_with_len (a + 1) n)) (filter (is_first trace) (range_with_len (a + 1) n))))
      at true e rest = (each a (omega arith) (omega arith) e, rest)
      at false e rest = rest

  firsts-apart : (a n : ℕ) → a + n ≤ length trace → IsDistinct same_object (firsts a n)
  unfolding IsDistinct
  firsts-apart a zero within = tt
  firsts-apart a (suc n) within =
      at (is_first trace a) (all-firsts (λ y. same_object (request_at trace a) y ≡ false) (a + 1) n others)
      (firsts-apart (a + 1) n (omega arith))
    where
      others : (k : ℕ) → a + 1 ≤ k → k < a + 1 + n → is_first trace k ≡ true
          → same_object (request_at trace a) (request_at trace k) ≡ false
      others k low high first =
          ⊎_elim
          (λ (same : same_object (request_at trace a) (request_at trace k) ≡ true).
          absurd (both_ways (is_first trace k)
          (is_first-no trace k a (omega arith) (omega arith) (same_object-sym (request_at trace k) (request_at trace a) ∙ same)) first))
          (λ (differs : same_object (request_at trace a) (request_at trace k) ≡ false). differs)
          (cases_Bool (same_object (request_at trace a) (request_at trace k)))

      at : (b : Bool) → AllByRecursion (λ y. same_object (request_at trace a) y ≡ false) (firsts (a + 1) n)
          → IsDistinct same_object (firsts (a + 1) n)
          → IsDistinct same_object (map (request_at trace) (cond b (a ∷ filter (is_first trace) (range_with_len (a + 1) n)) (filter (is_first trace) (range_with_len (a + 1) n))))
      at true all rest = (all, rest)
      at false all rest = rest

  -- the objects of a trace are different
  pub objects-apart : IsDistinct same_object (objects_of trace)
  objects-apart = firsts-apart 0 (length trace) (omega arith)

  -- and each that is asked for is one of them
  pub objects-asked : (t : ℕ) → t < length trace → holds (objects_of trace) (request_at trace t) ≡ true
  objects-asked t within = search (suc t) t (omega arith) within
    where
      search : (n k : ℕ) → k < n → k < length trace → holds (objects_of trace) (request_at trace k) ≡ true
      search zero k low high = absurd (omega arith)
      search (suc n) k low high =
          ⊎_elim
          (λ (first : IsFirst trace k).
          holds-from_Contains (objects_of trace) (request_at trace k)
          (Contains-filter_range (request_at trace) (is_first trace) k 0 (length trace) (omega arith) (omega arith)
          (is_first-yes trace k (omega arith) first)))
          (λ (found : (a : ℕ) × IsNext trace a k).
          let earlier : found.0 < k = found.1.before in
          ap (holds (objects_of trace)) (sym (same_object-true (request_at trace found.0) (request_at trace k) found.1.same))
          ∙ search n found.0 (omega arith) (omega arith))
          (first_or_next trace k high)

  -- a number of one of the objects is within the sum over all
  pub asked-le : (f : Object → ℕ) (t : ℕ) → t < length trace → f (request_at trace t) ≤ sum_by f (objects_of trace)
  asked-le f t within =
      omega (arith, sum_by-without f (request_at trace t) (objects_of trace) (objects-asked t within))

  -- and the sum is within it, if the others have none
  pub asked-only : (f : Object → ℕ) (t : ℕ)
      → sum_by (λ x. cond (same_object (request_at trace t) x) (f x) 0) (objects_of trace) ≤ f (request_at trace t)
  asked-only f t =
      omega (
        arith,
        sum_by-members f (same_object (request_at trace t)) (objects_of trace) (request_at trace t ∷ []) objects-apart
            (λ x same. or_left (same_object x (request_at trace t)) false (same_object-sym x (request_at trace t) ∙ same)),
        sum_by-cons f (request_at trace t) [],
      )
