-- Sums of what passes a test.
use Rattle.std.proofs.Common.{◌≡◌, ℕ, ◌+◌, ◌<◌, ◌≤◌, ◌⊎◌, inl, inr, refl, sym, ap, ◌∙◌, Bool, true, false, cond, ◌&&◌, eqb, leb, ltb, List, [], ◌∷◌, All, sum_by, arith, eq-eqb}
use Rattle.std.proofs.lemmas.Bool.{cases_lt, le-leb, le-ltb, lt-leb, lt-ltb, ne_eqb}
use Rattle.std.proofs.lemmas.List.Elements.{All-head, All-tail}
use Rattle.std.proofs.lemmas.List.Sums.{sum_by-cons}

-- the number, if the test passes
abbrev pub if_so : Bool → ℕ → ℕ
if_so test n = cond test n 0

-- what passes a test is no more than all
pub if_so-le : (b : Bool) (n : ℕ) → if_so b n ≤ n
if_so-le true n = omega arith
if_so-le false n = omega arith

-- two tests in either order
pub and-swap : (a b : Bool) → (a && b) ≡ (b && a)
and-swap true true = refl
and-swap true false = refl
and-swap false true = refl
and-swap false false = refl

-- sums of terms that add up
pub sum_by-split : {X : Type 0} (f g h : X → ℕ) (xs : List X) → ((x : X) → h x ≡ f x + g x) → sum_by h xs ≡ sum_by f xs + sum_by g xs
sum_by-split f g h [] each = refl
sum_by-split f g h (x ∷ xs) each = omega (arith, sum_by-cons f x xs, sum_by-cons g x xs, sum_by-cons h x xs, each x, sum_by-split f g h xs each)

-- sums of terms that agree on a list
pub sum_by-agree_on : {X : Type 0} (f g : X → ℕ) (xs : List X) → All (λ x. f x ≡ g x) xs → sum_by f xs ≡ sum_by g xs
sum_by-agree_on f g [] all = refl
sum_by-agree_on f g (x ∷ xs) all =
    omega (
      arith,
      sum_by-cons f x xs,
      sum_by-cons g x xs,
      All-head (λ x. f x ≡ g x) x xs all,
      sum_by-agree_on f g xs (All-tail (λ x. f x ≡ g x) x xs all),
    )

-- below the next number is what is below a number or is it
pub below-more : (b : Bool) (x n v : ℕ) → if_so (b && ltb x (n + 1)) v ≡ if_so (b && ltb x n) v + if_so (b && eqb x n) v
below-more false x n v = refl
below-more true x n v = by (cases_lt x n)
  where
    by : (x < n) ⊎ (n ≤ x) → if_so (ltb x (n + 1)) v ≡ if_so (ltb x n) v + if_so (eqb x n) v
    by (inl less) =
        omega (
          arith,
          ap (λ b. if_so b v) (lt-ltb x (n + 1) (omega arith)),
          ap (λ b. if_so b v) (lt-ltb x n less),
          ap (λ b. if_so b v) (ne_eqb x n (λ e. omega arith)),
        )
    by (inr more) = at (cases_lt n x)
      where
        at : (n < x) ⊎ (x ≤ n) → if_so (ltb x (n + 1)) v ≡ if_so (ltb x n) v + if_so (eqb x n) v
        at (inl above) =
            omega (
              arith,
              ap (λ b. if_so b v) (le-ltb x (n + 1) (omega arith)),
              ap (λ b. if_so b v) (le-ltb x n more),
              ap (λ b. if_so b v) (ne_eqb x n (λ e. omega arith)),
            )
        at (inr same) =
            omega (
              arith,
              ap (λ b. if_so b v) (lt-ltb x (n + 1) (omega arith)),
              ap (λ b. if_so b v) (le-ltb x n more),
              ap (λ b. if_so b v) (eq-eqb x n (omega arith)),
            )

-- and nothing is below 0
pub below-none : (b : Bool) (x v : ℕ) → if_so (b && ltb x 0) v ≡ 0
below-none false x v = refl
below-none true x v = ap (λ b. if_so b v) (le-ltb x 0 (omega arith))

-- below the next number is up to a number
pub below-up_to : (x n : ℕ) → ltb x (n + 1) ≡ leb x n
below-up_to x n = by (cases_lt n x)
  where
    by : (n < x) ⊎ (x ≤ n) → ltb x (n + 1) ≡ leb x n
    by (inl above) = le-ltb x (n + 1) (omega arith) ∙ sym (lt-leb x n above)
    by (inr within) = lt-ltb x (n + 1) (omega arith) ∙ sym (le-leb x n within)
