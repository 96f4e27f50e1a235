-- Sums over tables, over ranges, and of the prices of steps.
use Rattle.std.proofs.Common.{◌≡◌, ℕ, zero, suc, ◌+◌, ◌-◌, ◌<◌, ◌≤◌, ◌∙◌, sym, refl, ap, List, [], ◌∷◌, length, arith, get_or, sum, sum_by, take, drop, slice_range}
use Rattle.std.specs.List.{range_with_len}
use Rattle.std.proofs.lemmas.List.Edits.{between_more}
use Rattle.std.proofs.lemmas.List.Sums.{sum_by-cons, sum_by_push}
use Rattle.cache_model.proofs.Sums.{sum_by-nothing}

-- rows and columns of a table sum to the same
pub sum_by-turn : {X Y : Type 0} (f : X → Y → ℕ) (xs : List X) (ys : List Y)
    → sum_by (λ x. sum_by (f x) ys) xs ≡ sum_by (λ y. sum_by (λ x. f x y) xs) ys
sum_by-turn f [] ys = sym (sum_by-nothing (λ y. 0) ys (λ y. refl))
sum_by-turn {Y = Y} f (x ∷ xs) ys =
    sum_by-cons (λ x. sum_by (f x) ys) x xs ∙ ap (λ n. sum_by (f x) ys + n) (sum_by-turn f xs ys) ∙ more ys
  where
    more : (zs : List Y)
        → sum_by (f x) zs + sum_by (λ y. sum_by (λ x. f x y) xs) zs ≡ sum_by (λ y. sum_by (λ x. f x y) (x ∷ xs)) zs
    more [] = refl
    more (z ∷ zs) =
        omega (
          arith,
          more zs,
          sum_by-cons (f x) z zs,
          sum_by-cons (λ y. sum_by (λ x. f x y) xs) z zs,
          sum_by-cons (λ y. sum_by (λ x. f x y) (x ∷ xs)) z zs,
          sum_by-cons (λ x. f x z) x xs,
        )

-- two sums over a range, term by term
pub sum_by-range_le : (f g : ℕ → ℕ) (a n : ℕ) → ((k : ℕ) → a ≤ k → k < a + n → f k ≤ g k)
    → sum_by f (range_with_len a n) ≤ sum_by g (range_with_len a n)
sum_by-range_le f g a zero each = omega arith
sum_by-range_le f g a (suc n) each =
    omega (
      arith,
      each a (omega arith) (omega arith),
      sum_by-cons f a (range_with_len (a + 1) n),
      sum_by-cons g a (range_with_len (a + 1) n),
      sum_by-range_le f g (a + 1) n (λ k low high. each k (omega arith) (omega arith)),
    )

-- the prices of no steps
pub sum-none : (prices : List ℕ) (a : ℕ) → sum (slice_range prices a a) ≡ 0
sum-none prices a = let e : a - a ≡ 0 = omega arith in ap (λ k. sum (take k (drop a prices))) e

-- one more step
pub sum-more : (prices : List ℕ) (a b : ℕ) → a ≤ b → b < length prices
    → sum (slice_range prices a (suc b)) ≡ sum (slice_range prices a b) + get_or prices b 0
sum-more prices a b low high =
    let e : suc b ≡ b + 1 = omega arith in
    ap (λ k. sum (slice_range prices a k)) e ∙ ap sum (between_more prices a b 0 low high)
    ∙ sum_by_push (λ (n : ℕ). n) (slice_range prices a b) (get_or prices b 0)
