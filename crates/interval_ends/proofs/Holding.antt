-- What allowed contents hold: what was asked for before, and what fits.
use Rattle.std.proofs.Common.{◌≡◌, ℕ, zero, suc, ◌+◌, ◌/◌, ◌<◌, ◌≤◌, ◌∙◌, sym, refl, ap, subst, true, false, List, [], ◌∷◌, length, arith, inl, inr, ◌⊎◌, ⊎_elim, Some, Contains, get_or, slice_get, sum_by}
use Rattle.std.specs.List.{AllByRecursion, IsDistinct}
use Rattle.std.proofs.lemmas.Bool.{cases_lt, both_ways, or_cases, or_left, or_right}
use Rattle.std.proofs.lemmas.Option.{slice_get-get_or}
use Rattle.std.proofs.lemmas.List.{get_or_past}
use Rattle.std.proofs.lemmas.List.Elements.{recursion_from_All, Contains-get_or}
use Rattle.std.proofs.lemmas.Map.Made.{IsDistinct-from_AllPairs}
use Rattle.cache_model.specs.declared.objects.Object.{Object}
use Rattle.cache_model.specs.Claim.{same_object, total_size, holds, before_request, IsAllowed, request_at, no_object}
use Rattle.cache_model.specs.Objects.{IsFirst, IsNext}
use Rattle.cache_model.proofs.Duality.{same_object-true}
use Rattle.cache_model.proofs.Pairs.{same_object-sym, weight_of}
use Rattle.cache_model.proofs.Steps.{weights-le, holds-from_Contains, same_object-from}
use Rattle.cache_model.proofs.Scores.{first_or_next, size-le-total_size}

-- what holds of all members
of_holds : (P : Object → Type 0) (xs : List Object) (x : Object) → AllByRecursion P xs → holds xs x ≡ true → P x
of_holds P [] x all has = absurd (both_ways false refl has)
of_holds P (y ∷ xs) x all has =
    ⊎_elim
    (λ (same : same_object x y ≡ true). subst P (sym (same_object-true x y same)) all.0)
    (λ (rest : holds xs x ≡ true). of_holds P xs x all.1 rest)
    (or_cases _ _ has)

module _ (c : ℕ) (trace : List Object) (contents : List (List Object)) (allowed : IsAllowed c trace contents) where
  abbrev held : ℕ → List Object
  held n = before_request contents n

  -- what is held after a request is its object, or was held before
  entered : (n : ℕ) → n < length trace → (x : Object) → Contains (held (n + 1)) x
      → holds (request_at trace n ∷ held n) x ≡ true
  entered n within x m = at (allowed.only_requests_enter n within x m)
    where
      at : Contains (held n) x ⊎ (slice_get trace n ≡ Some x) → holds (request_at trace n ∷ held n) x ≡ true
      at (inl was) = or_right (same_object x (request_at trace n)) (holds (held n) x) (holds-from_Contains (held n) x was)
      at (inr e) =
          let is : slice_get trace n ≡ Some (request_at trace n) = slice_get-get_or trace n no_object within in
          let same : x ≡ request_at trace n = cc in
          or_left (same_object x (request_at trace n)) (holds (held n) x) (same_object-from x (request_at trace n) same)

  pub all_entered : (n : ℕ) → n < length trace
      → AllByRecursion (λ x. holds (request_at trace n ∷ held n) x ≡ true) (held (n + 1))
  all_entered n within =
      recursion_from_All (λ x. holds (request_at trace n ∷ held n) x ≡ true) (held (n + 1))
      (λ i z low. entered n within (get_or (held (n + 1)) i z) (Contains-get_or (held (n + 1)) i z low))

  -- so an object that is not asked for was held before
  pub held-before : (n : ℕ) (x : Object) → n < length trace → same_object (request_at trace n) x ≡ false
      → holds (held (n + 1)) x ≡ true → holds (held n) x ≡ true
  held-before n x within other has =
      ⊎_elim
      (λ (same : same_object x (request_at trace n) ≡ true).
      absurd (both_ways (same_object (request_at trace n) x) other (rw (same_object-sym (request_at trace n) x) same)))
      (λ (was : holds (held n) x ≡ true). was)
      (or_cases _ _ (of_holds (λ y. holds (request_at trace n ∷ held n) y ≡ true) (held (n + 1)) x (all_entered n within) has))

  pub held-apart : (n : ℕ) → n ≤ length trace → IsDistinct same_object (held n)
  held-apart n within =
      IsDistinct-from_AllPairs (λ a b. (same_object-true a b, same_object-from a b)) (held n)
      (allowed.without_repeats n [] (omega (arith, allowed.one_more_than_requests)))

  held-size : (n : ℕ) → total_size (held n) ≤ c
  held-size n =
      ⊎_elim
      (λ (low : n < length contents). allowed.within_capacity n [] low)
      (λ (high : length contents ≤ n).
      let e : total_size (held n) ≡ 0 = ap total_size (get_or_past contents n [] high) in
      omega arith)
      (cases_lt n (length contents))

  -- the weights of what is held are within the units
  pub held-weight : (unit n : ℕ) → sum_by (weight_of unit) (held n) ≤ c / unit
  held-weight unit n = weights-le unit c (held n) (held-size n)

  -- an object that is held fits
  pub held-fits : (n : ℕ) (x : Object) → holds (held n) x ≡ true → x.size ≤ c
  held-fits n x has = omega (arith, size-le-total_size (held n) x has, held-size n)

  -- an object that was not asked for is not held
  not_asked : (x : Object) (n : ℕ) → n ≤ length trace
      → ((k : ℕ) → k < n → same_object x (request_at trace k) ≡ false) → holds (held n) x ≡ true → ⊥
  not_asked x zero within none has = both_ways (holds (held 0) x) (ap (λ xs. holds xs x) allowed.empty_at_first) has
  not_asked x (suc n) within none has =
      let e : suc n ≡ n + 1 = omega arith in
      ⊎_elim
      (λ (same : same_object x (request_at trace n) ≡ true).
      both_ways (same_object x (request_at trace n)) (none n (omega arith)) same)
      (λ (was : holds (held n) x ≡ true). not_asked x n (omega arith) (λ k low. none k (omega arith)) was)
      (or_cases _ _
      (of_holds (λ y. holds (request_at trace n ∷ held n) y ≡ true) (held (n + 1)) x (all_entered n (omega arith))
      (ap (λ k. holds (held k) x) (sym e) ∙ has)))

  -- so one that is held has a request before
  pub held-next : (n : ℕ) → n < length trace → holds (held n) (request_at trace n) ≡ true → (a : ℕ) × IsNext trace a n
  held-next n within has =
      ⊎_elim
      (λ (first : IsFirst trace n). absurd (not_asked (request_at trace n) n (omega arith) first has))
      (λ (found : (a : ℕ) × IsNext trace a n). found)
      (first_or_next trace n within)
