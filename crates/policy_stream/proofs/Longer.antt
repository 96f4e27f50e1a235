-- The objects of a trace that goes on, and their numbers.
use Rattle.std.proofs.Common.{◌≡◌, ℕ, zero, suc, ◌+◌, ◌<◌, ◌≤◌, ◌⊎◌, inl, inr, ◌∙◌, refl, sym, ap, subst, Bool, true, false, cond, List, [], ◌∷◌, ◌++◌, length, get_or, arith, append-nil, append_assoc, Some, position, unwrap_or}
use Rattle.std.specs.List.{position_from}
use Rattle.std.proofs.lemmas.Bool.{cases_Bool, cases_eq}
use Rattle.std.proofs.lemmas.Iterator.Adapters.{position_from-zero}
use Rattle.cache_model.specs.declared.objects.Object.{Object}
use Rattle.cache_model.specs.Claim.{request_at, same_object}
use Rattle.cache_model.specs.Objects.{IsLatest, IsNew, objects_of}
use Rattle.cache_model.proofs.DifferentObjects.{objects_of-pushed_again, objects_of-pushed_new}

-- what is found in a list is found at the same place in a longer one
from_left : {X : Type 0} (p : X → Bool) (i : ℕ) (xs more : List X) (k : ℕ) → position_from p i xs ≡ Some k → position_from p i (xs ++ more) ≡ Some k
from_left p i [] more k found = absurd cc
from_left p i (x ∷ xs) more k found = at (p x) (from_left p (i + 1) xs more k) found
  where
    at : (b : Bool) → (position_from p (i + 1) xs ≡ Some k → position_from p (i + 1) (xs ++ more) ≡ Some k)
        → cond b (Some i) (position_from p (i + 1) xs) ≡ Some k → cond b (Some i) (position_from p (i + 1) (xs ++ more)) ≡ Some k
    at true rest e = e
    at false rest e = rest e

pub position-left : {X : Type 0} (p : X → Bool) (xs more : List X) (k : ℕ) → position p xs ≡ Some k → position p (xs ++ more) ≡ Some k
position-left p xs more k found = position_from-zero p (xs ++ more) ∙ from_left p 0 xs more k (sym (position_from-zero p xs) ∙ found)

-- it passes the test
from_passes : {X : Type 0} (p : X → Bool) (i : ℕ) (xs : List X) (d : X) (k : ℕ) → position_from p i xs ≡ Some k → (j : ℕ) × (k ≡ i + j) × (j < length xs) × (p (get_or xs j d) ≡ true)
from_passes p i [] d k found = absurd cc
from_passes p i (x ∷ xs) d k found = at (p x) refl (from_passes p (i + 1) xs d k) found
  where
    at : (b : Bool) → p x ≡ b → (position_from p (i + 1) xs ≡ Some k → (j : ℕ) × (k ≡ i + 1 + j) × (j < length xs) × (p (get_or xs j d) ≡ true))
        → cond b (Some i) (position_from p (i + 1) xs) ≡ Some k → (j : ℕ) × (k ≡ i + j) × (j < length (x ∷ xs)) × (p (get_or (x ∷ xs) j d) ≡ true)
    at true passes rest e = (0, omega (arith, ap (λ o. unwrap_or o 0) e), omega arith, passes)
    at false fails rest e =
        let later = rest e in
        (suc later.0, omega (arith, later.1), omega (arith, later.2), later.3)

pub position-passes : {X : Type 0} (p : X → Bool) (xs : List X) (d : X) (k : ℕ) → position p xs ≡ Some k → (k < length xs) × (p (get_or xs k d) ≡ true)
position-passes p xs d k found =
    let from = from_passes p 0 xs d k (sym (position_from-zero p xs) ∙ found) in
    let same : from.0 ≡ k = omega (arith, from.1) in
    (omega (arith, same, from.2), subst (λ j. p (get_or xs j d) ≡ true) same from.3)

-- an object was asked for last at some request, or never
latest_below : (trace : List Object) (x : Object) (n : ℕ) → n ≤ length trace → ((k : ℕ) → n ≤ k → k < length trace → same_object x (request_at trace k) ≡ false)
    → IsNew trace x ⊎ ((a : ℕ) × IsLatest trace x a)
latest_below trace x zero within none = inl (λ k low. none k (omega arith) low)
latest_below trace x (suc n) within none = elim (cases_Bool (same_object x (request_at trace n))) [
  | inl same ↦ inr (n, record { within = omega arith; same = same; others = λ k after until. none k (omega arith) until })
  | inr differs ↦
      latest_below trace x n (omega arith) (λ k low until. elim (cases_eq k n) [
        | inl here ↦ subst (λ j. same_object x (request_at trace j) ≡ false) (sym here) differs
        | inr apart ↦ none k (omega arith) until
      ])
]

-- the objects of a trace come first among those of a longer one
one-longer : (trace : List Object) (x : Object) → (more : List Object) × (objects_of (trace ++ x ∷ []) ≡ objects_of trace ++ more)
one-longer trace x = elim (latest_below trace x (length trace) (omega arith) (λ k low until. absurd (omega arith))) [
  | inl new ↦ (x ∷ [], objects_of-pushed_new trace x new)
  | inr latest ↦ ([], objects_of-pushed_again trace x latest.0 latest.1 ∙ sym (append-nil (objects_of trace)))
]

pub objects-longer : (trace rest : List Object) → (more : List Object) × (objects_of (trace ++ rest) ≡ objects_of trace ++ more)
objects-longer trace [] = ([], ap objects_of (append-nil trace) ∙ sym (append-nil (objects_of trace)))
objects-longer trace (x ∷ rest) =
    let one = one-longer trace x in
    let others = objects-longer (trace ++ x ∷ []) rest in (
      one.0 ++ others.0,
      ap objects_of (sym (append_assoc trace (x ∷ []) rest)) ∙ others.1 ∙ ap (λ xs. xs ++ others.0) one.1 ∙ append_assoc (objects_of trace) one.0 others.0,
    )

-- so a number that was given stays
pub number-stays : (trace rest : List Object) (x : Object) (k : ℕ) → position (same_object x) (objects_of trace) ≡ Some k → position (same_object x) (objects_of (trace ++ rest)) ≡ Some k
number-stays trace rest x k found =
    let longer = objects-longer trace rest in
    ap (position (same_object x)) longer.1 ∙ position-left (same_object x) (objects_of trace) longer.0 k found
