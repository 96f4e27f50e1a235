-- What any allowed contents stand to gain by the next requests.
use Rattle.std.proofs.Common.{◌≡◌, ℕ, zero, suc, ◌+◌, ◌*◌, ◌/◌, ◌<◌, ◌≤◌, ◌∙◌, sym, refl, ap, subst, ⊎_elim, Bool, true, false, cond, eqb, leb, List, [], ◌∷◌, arith, sum_by}
use Rattle.std.specs.List.{AllByRecursion}
use Rattle.std.proofs.Math.Nat.{div_self}
use Rattle.std.proofs.lemmas.Bool.{eq-eqb, or_cases}
use Rattle.std.proofs.lemmas.List.Sums.{sum_by-cons}
use Rattle.cache_model.specs.declared.objects.Object.{Object}
use Rattle.cache_model.specs.Claim.{same_object, holds}
use Rattle.cache_model.proofs.Duality.{same_object-true, without, hit-le, inside-without, sum_by-subset, IsStep}
use Rattle.policy_laws.proofs.Standing.{due}

-- ---- what an object stands to gain
module _ (g : Object → ℕ) where
  -- what the object gains, if one of the next n requests is for it
  abbrev pub soon : ℕ → List Object → Object → ℕ
  soon zero later x = 0
  soon (suc n) [] x = 0
  soon (suc n) (y ∷ later) x = cond (same_object y x) (g x) (soon n later x)

  pub soon-le : (n : ℕ) (later : List Object) (x : Object) → soon n later x ≤ g x
  soon-le zero later x = omega arith
  soon-le (suc n) [] x = omega arith
  soon-le (suc n) (y ∷ later) x = at (same_object y x) (soon-le n later x)
    where
      at : (t : Bool) → soon n later x ≤ g x → cond t (g x) (soon n later x) ≤ g x
      at true rest = omega arith
      at false rest = rest

  -- the same by numbers
  pub soon-due : (num : Object → ℕ) (gain n : ℕ) (later : List Object) (x : Object) → g x ≤ gain → soon n later x ≤ due num gain n later (num x)
  soon-due num gain zero later x few = omega arith
  soon-due num gain (suc n) [] x few = omega arith
  soon-due num gain (suc n) (y ∷ later) x few = at (same_object y x) (eqb (num x) (num y)) refl refl (soon-due num gain n later x few)
    where
      at : (t b : Bool) → same_object y x ≡ t → eqb (num x) (num y) ≡ b → soon n later x ≤ due num gain n later (num x) → cond t (g x) (soon n later x) ≤ cond b gain (due num gain n later (num x))
      at true true same numbers rest = few
      at true false same numbers rest =
          let e : num x ≡ num y = ap num (sym (same_object-true y x same)) in
          let t : eqb (num x) (num y) ≡ true = eq-eqb (num x) (num y) e in cc
      at false true other numbers rest = omega (arith, soon-le n later x)
      at false false other numbers rest = rest

  -- one request: what a hit earns and what the next contents stand to gain
  pub sum_by-soon : (earns w : Object → ℕ) (units n : ℕ) (held : List Object) (r : Object) (later next : List Object) → IsStep earns g w units held r next → AllByRecursion (λ x. earns x ≤ g x) held
      → cond (holds held r) (earns r) 0 + sum_by (soon n later) next ≤ sum_by (soon (suc n) (r ∷ later)) held + soon n later r
  sum_by-soon earns w units n held r later next step counted =
      let f : Object → ℕ = soon n later in
      let inside : sum_by f next ≤ sum_by f (r ∷ without r held) = sum_by-subset f next (r ∷ without r held) step.apart (inside-without r held next step.inside) in
      omega (arith, inside, hit-le earns g f r held counted, sum_by-cons f r (without r held))

-- ---- what is known of each object
-- a hit earns at least the gain and counts at most for it, and where the object fits it has the size s
pub record IsAlike (earns g : Object → ℕ) (gain c s : ℕ) (x : Object) : Type 0 where
  pub enough : gain ≤ earns x
  pub most : g x ≤ gain
  pub none : leb x.size c ≡ false → g x ≡ 0
  pub one_size : leb x.size c ≡ true → x.size ≡ s

-- members that are r or were held are alike
alike-held : (P : Object → Type 0) (ys : List Object) (x : Object) → AllByRecursion P ys → holds ys x ≡ true → P x
alike-held P [] x each there = cc
alike-held P (y ∷ ys) x each there =
    ⊎_elim
    (λ (same : same_object x y ≡ true). subst P (sym (same_object-true x y same)) each.0)
    (λ (later : holds ys x ≡ true). alike-held P ys x each.1 later)
    (or_cases _ _ there)

pub alike-next : (P : Object → Type 0) (ys next : List Object) → AllByRecursion P ys → AllByRecursion (λ x. holds ys x ≡ true) next → AllByRecursion P next
alike-next P ys [] each inside = tt
alike-next P ys (x ∷ xs) each inside = (alike-held P ys x each inside.0, alike-next P ys xs each inside.1)

-- contents stand to gain at most the gain for each unit of s
pub sum_by-soon-le : (earns g : Object → ℕ) (gain c s n : ℕ) (later xs : List Object) → 0 < s → AllByRecursion (IsAlike earns g gain c s) xs → sum_by (soon g n later) xs ≤ gain * sum_by (λ x. x.size / s) xs
sum_by-soon-le earns g gain c s n later [] positive each = omega arith
sum_by-soon-le earns g gain c s n later (x ∷ xs) positive each =
    omega (
      arith,
      sum_by-soon-le earns g gain c s n later xs positive each.1,
      at (leb x.size c) refl,
      sum_by-cons (soon g n later) x xs,
      ap (λ m. gain * m) (sum_by-cons (λ (y : Object). y.size / s) x xs),
    )
  where
    at : (t : Bool) → leb x.size c ≡ t → soon g n later x ≤ gain * (x.size / s)
    at true fits =
        let one : x.size / s ≡ 1 = ap (λ m. m / s) (each.0.one_size fits) ∙ div_self positive in
        omega (arith, soon-le g n later x, each.0.most, ap (λ m. gain * m) one)
    at false large = omega (arith, soon-le g n later x, each.0.none large)
