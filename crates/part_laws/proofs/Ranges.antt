-- Sums over successive numbers.
use Rattle.std.proofs.Common.{◌≡◌, ℕ, zero, suc, ◌+◌, ◌-◌, ◌<◌, ◌≤◌, ◌∙◌, refl, ap, arith, sum_by}
use Rattle.std.specs.List.{range_with_len}
use Rattle.std.proofs.lemmas.List.Sums.{sum_by-cons}
use Rattle.cache_model.proofs.Sums.{sum_by-nothing}

-- the first n numbers of a range, and then m more
pub sum_by-range_split : (f : ℕ → ℕ) (a n m : ℕ) → sum_by f (range_with_len a (n + m)) ≡ sum_by f (range_with_len a n) + sum_by f (range_with_len (a + n) m)
sum_by-range_split f a zero m =
    let none : 0 + m ≡ m = omega arith in
    let here : a + 0 ≡ a = omega arith in
    omega (arith, ap (λ k. sum_by f (range_with_len a k)) none, ap (λ k. sum_by f (range_with_len k m)) here)
sum_by-range_split f a (suc n) m =
    let long : suc n + m ≡ suc (n + m) = omega arith in
    let place : a + 1 + n ≡ a + suc n = omega arith in
    omega (
      arith,
      ap (λ k. sum_by f (range_with_len a k)) long,
      ap (λ k. sum_by f (range_with_len k m)) place,
      sum_by-cons f a (range_with_len (a + 1) (n + m)),
      sum_by-cons f a (range_with_len (a + 1) n),
      sum_by-range_split f (a + 1) n m,
    )

-- two sums over as many numbers, number by number
pub sum_by-range_below : (f g : ℕ → ℕ) (a b n : ℕ) → ((j : ℕ) → j < n → f (a + j) ≤ g (b + j)) → sum_by f (range_with_len a n) ≤ sum_by g (range_with_len b n)
sum_by-range_below f g a b zero each = omega arith
sum_by-range_below f g a b (suc n) each =
    let first : a + 0 ≡ a = omega arith in
    let other : b + 0 ≡ b = omega arith in
    omega (
      arith,
      ap f first,
      ap g other,
      each 0 (omega arith),
      sum_by-cons f a (range_with_len (a + 1) n),
      sum_by-cons g b (range_with_len (b + 1) n),
      sum_by-range_below f g (a + 1) (b + 1) n
          (λ j low.
          let next : a + 1 + j ≡ a + suc j = omega arith in
          let others : b + 1 + j ≡ b + suc j = omega arith in
          omega (arith, ap f next, ap g others, each (suc j) (omega arith))),
    )

-- two that are equal so
pub sum_by-range_alike : (f g : ℕ → ℕ) (a b n : ℕ) → ((j : ℕ) → j < n → f (a + j) ≡ g (b + j)) → sum_by f (range_with_len a n) ≡ sum_by g (range_with_len b n)
sum_by-range_alike f g a b n each =
    omega (arith, sum_by-range_below f g a b n (λ j low. omega (arith, each j low)), sum_by-range_below g f b a n (λ j low. omega (arith, each j low)))

-- what is nothing before m, summed over all numbers from 0 on
pub sum_by-range_from : (f g : ℕ → ℕ) (m n : ℕ) → ((t : ℕ) → t < m → f t ≡ 0) → ((t : ℕ) → m ≤ t → f t ≡ g t) → sum_by f (range_with_len 0 n) ≡ sum_by g (range_with_len m (n - m))
sum_by-range_from f g m n early late =
    let before : ℕ = n - (n - m) in
    let whole : n ≡ before + (n - m) = omega arith in
    omega (
      arith,
      ap (λ k. sum_by f (range_with_len 0 k)) whole,
      sum_by-range_split f 0 before (n - m),
      nothing before (omega arith),
      sum_by-range_alike f g (0 + before) m (n - m) (λ j low. let place : 0 + before + j ≡ m + j = omega arith in ap f place ∙ late (m + j) (omega arith)),
    )
  where
    nothing : (k : ℕ) → k ≤ m → sum_by f (range_with_len 0 k) ≡ 0
    nothing k low = sum_by-range_alike f (λ t. 0) 0 0 k (λ j within. let place : 0 + j ≡ j = omega arith in ap f place ∙ early j (omega arith)) ∙ sum_by-nothing (λ t. 0) (range_with_len 0 k) (λ t. refl)
