-- What a filter leaves of contents.
use Rattle.std.proofs.Common.{◌≡◌, ◌≤◌, ◌⊎◌, inl, inr, ⊎_elim, refl, Bool, true, false, cond, List, [], ◌∷◌, arith, filter}
use Rattle.std.proofs.lemmas.Bool.{or_cases, or_left, or_right}
use Rattle.std.proofs.lemmas.List.Sums.{sum_by-cons}
use Rattle.cache_model.specs.declared.objects.Object.{Object}
use Rattle.cache_model.specs.Claim.{same_object, total_size, holds}
use Rattle.cache_model.proofs.Duality.{same_object-true}

pub holds-filter : (p : Object → Bool) (xs : List Object) (x : Object) → holds xs x ≡ true → p x ≡ true → holds (filter p xs) x ≡ true
holds-filter p [] x h passes = h
holds-filter p (y ∷ ys) x h passes = at (p y) refl (or_cases (same_object x y) (holds ys x) h) (λ rest. holds-filter p ys x rest passes)
  where
    at : (t : Bool) → p y ≡ t → (same_object x y ≡ true) ⊎ (holds ys x ≡ true) → (holds ys x ≡ true → holds (filter p ys) x ≡ true) → holds (cond t (y ∷ filter p ys) (filter p ys)) x ≡ true
    at true e (inl same) more = or_left _ _ same
    at true e (inr rest) more = or_right _ _ (more rest)
    at false e (inl same) more = let here : x ≡ y = same_object-true x y same in cc
    at false e (inr rest) more = more rest

pub held_and_passed : (p : Object → Bool) (xs : List Object) (x : Object) → holds (filter p xs) x ≡ true → (holds xs x ≡ true) × (p x ≡ true)
held_and_passed p [] x h = cc
held_and_passed p (y ∷ ys) x h = at (p y) refl h (held_and_passed p ys x)
  where
    at : (t : Bool) → p y ≡ t → holds (cond t (y ∷ filter p ys) (filter p ys)) x ≡ true → (holds (filter p ys) x ≡ true → (holds ys x ≡ true) × (p x ≡ true)) → (holds (y ∷ ys) x ≡ true) × (p x ≡ true)
    at true e h more =
        ⊎_elim (λ (same : same_object x y ≡ true). let here : x ≡ y = same_object-true x y same in (or_left _ _ same, cc))
        (λ (rest : holds (filter p ys) x ≡ true). let parts = more rest in (or_right _ _ parts.0, parts.1))
        (or_cases (same_object x y) (holds (filter p ys) x) h)
    at false e h more = let parts = more h in (or_right _ _ parts.0, parts.1)

pub total_size-filter : (p : Object → Bool) (xs : List Object) → total_size (filter p xs) ≤ total_size xs
total_size-filter p [] = omega arith
total_size-filter p (y ∷ ys) = at (p y) (total_size-filter p ys)
  where
    at : (t : Bool) → total_size (filter p ys) ≤ total_size ys → total_size (cond t (y ∷ filter p ys) (filter p ys)) ≤ total_size (y ∷ ys)
    at true rest = omega (arith, sum_by-cons (λ (x : Object). x.size) y ys, sum_by-cons (λ (x : Object). x.size) y (filter p ys))
    at false rest = omega (arith, sum_by-cons (λ (x : Object). x.size) y ys)
