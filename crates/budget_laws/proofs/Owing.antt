-- What each object owes before each request, and how contents that step on stay within it.
use Rattle.std.proofs.Common.{◌≡◌, ℕ, ◌+◌, ◌≤◌, ◌∙◌, sym, refl, ap, Bool, true, false, not, cond, List, [], ◌∷◌, arith, ⊎_elim, sum_by}
use Rattle.std.specs.List.{IsDistinct, AllByRecursion}
use Rattle.std.proofs.lemmas.Bool.{both_ways, or_cases, or_parts}
use Rattle.std.proofs.lemmas.List.Sums.{sum_by-cons}
use Rattle.cache_model.specs.declared.objects.Object.{Object}
use Rattle.cache_model.specs.Claim.{same_object, holds}
use Rattle.cache_model.proofs.Duality.{same_object-refl, without, holds-without, inside-without, sum_by-subset}
use Rattle.cache_model.proofs.Pairs.{same_object-sym}
use Rattle.cache_model.proofs.Sums.{sum_by-agree, sum_by-filter}

-- members of the next contents that are not r were held before, if r is no member
inside-others : (r : Object) (held xs : List Object)
    → holds xs r ≡ false → AllByRecursion (λ x. holds (r ∷ held) x ≡ true) xs → AllByRecursion (λ x. holds (without r held) x ≡ true) xs
inside-others r held [] gone h = tt
inside-others r held (x ∷ xs) gone h =
    let parts : (same_object r x ≡ false) × (holds xs r ≡ false) = or_parts _ _ gone in (
      ⊎_elim
          (λ (same : same_object x r ≡ true). absurd (both_ways (same_object r x) parts.0 (same_object-sym r x ∙ same)))
          (λ (was : holds held x ≡ true). holds-without r x held parts.0 was) (or_cases _ _ h.0),
      inside-others r held xs parts.1 h.1,
    )

module _ (r : Object) (own : ℕ) (f : Object → ℕ) where
  -- a number for each object, that of r given anew
  abbrev pub anew : Object → ℕ
  anew x = cond (same_object r x) own (f x)

  -- the others keep theirs
  others-anew : (held : List Object) → sum_by anew (without r held) ≡ sum_by f (without r held)
  others-anew held =
      sum_by-filter anew (λ x. not (same_object r x)) held
      ∙ sum_by-agree (λ x. cond (not (same_object r x)) (anew x) 0) (λ x. cond (not (same_object r x)) (f x) 0) held
      (λ x. at (same_object r x) (f x))
      ∙ sym (sum_by-filter f (λ x. not (same_object r x)) held)
    where
      at : (s : Bool) (n : ℕ) → cond (not s) (cond s own n) 0 ≡ cond (not s) n 0
      at true n = refl
      at false n = refl

  -- the next contents sum to at most r's new number, if they hold r, and the numbers of the others that were held
  pub next-anew : (held next : List Object)
      → IsDistinct same_object next → AllByRecursion (λ x. holds (r ∷ held) x ≡ true) next
      → sum_by anew next ≤ cond (holds next r) own 0 + sum_by f (without r held)
  next-anew held next apart inside = at (holds next r) refl
    where
      at : (t : Bool) → holds next r ≡ t → sum_by anew next ≤ cond t own 0 + sum_by f (without r held)
      at true e =
          let first : anew r ≡ own = ap (λ s. cond s own (f r)) (same_object-refl r) in
          omega (
            arith,
            sum_by-subset anew next (r ∷ without r held) apart (inside-without r held next inside),
            sum_by-cons anew r (without r held),
            first,
            others-anew held,
          )
      at false e =
          omega (
            arith,
            sum_by-subset anew next (without r held) apart (inside-others r held next e inside),
            others-anew held,
          )
