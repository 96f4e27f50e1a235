-- Sums of the first of a list.
use Rattle.std.proofs.Common.{◌≡◌, ◌≢◌, ℕ, suc, zero, ◌+◌, ◌-◌, ◌<◌, ◌≤◌, ◌∙◌, refl, ap, cond, nat_lt, List, [], ◌∷◌, length, arith, ⊎_elim, get_or, set, take, sum}
use Rattle.std.proofs.lemmas.Bool.{cases_lt, cases_eq, lt-ltb, le-ltb}
use Rattle.std.proofs.lemmas.List.{length-take, get_or-take, take-set-le}
use Rattle.std.proofs.Math.Seq.{take-set-lt}
use Rattle.std.proofs.lemmas.List.Sums.{sum_by-set, sum_by-cons}
use Rattle.flow_model.proofs.Lists.{set_at}
use Rattle.flow_sparse.specs.States.{first_sum}

-- one of the list lost the amount
pub first_sum-less : (xs : List ℕ) (k n amount : ℕ) → k < length xs → amount ≤ get_or xs k 0
    → first_sum (set xs k (get_or xs k 0 - amount)) n + cond (nat_lt k n) amount 0 ≡ first_sum xs n
first_sum-less xs k n amount within few =
    let less : ℕ = get_or xs k 0 - amount in
    ⊎_elim
    (λ (h : k < n).
    let inside : k < length (take n xs) = omega (arith, length-take n xs) in
    omega (
      arith,
      few,
      ap sum (take-set-lt n xs k less h),
      sum_by-set (λ (m : ℕ). m) (take n xs) k less 0 inside,
      get_or-take n xs k 0 h,
      ap (λ b. cond b amount 0) (lt-ltb k n h),
    ))
    (λ (h : n ≤ k). omega (arith, ap sum (take-set-le n xs k less h), ap (λ b. cond b amount 0) (le-ltb k n h)))
    (cases_lt k n)

-- none grew
pub less_at : (xs : List ℕ) (k amount node : ℕ) → k < length xs → get_or (set xs k (get_or xs k 0 - amount)) node 0 ≤ get_or xs node 0
less_at xs k amount node within =
    ⊎_elim
    (λ (e : node ≡ k). omega (arith, (set_at xs k node (get_or xs k 0 - amount) within).0 e, ap (λ n. get_or xs n 0) e))
    (λ (n : node ≢ k). omega (arith, (set_at xs k node (get_or xs k 0 - amount) within).1 n))
    (cases_eq node k)

-- the next one is added
pub first_sum-next : (xs : List ℕ) (n : ℕ) → first_sum xs (n + 1) ≡ first_sum xs n + get_or xs n 0
first_sum-next [] zero = refl
first_sum-next [] (suc n) = let e : suc n + 1 ≡ suc (n + 1) = omega arith in ap (λ k. sum (take k [])) e
first_sum-next (x ∷ xs) zero = omega (arith, sum_by-cons (λ (m : ℕ). m) x (take 0 xs))
first_sum-next (x ∷ xs) (suc n) =
    let e : suc n + 1 ≡ suc (n + 1) = omega arith in
    ap (λ k. sum (take k (x ∷ xs))) e
    ∙ omega (arith, sum_by-cons (λ (m : ℕ). m) x (take (n + 1) xs), sum_by-cons (λ (m : ℕ). m) x (take n xs), first_sum-next xs n)

-- more of the list sum to no less
pub first_sum-grows : (xs : List ℕ) (m n : ℕ) → first_sum xs m ≤ first_sum xs (m + n)
first_sum-grows xs m zero = let e : m + 0 ≡ m = omega arith in omega (arith, ap (first_sum xs) e)
first_sum-grows xs m (suc n) = let e : (m + n) + 1 ≡ m + suc n = omega arith in omega (arith, first_sum-grows xs m n, first_sum-next xs (m + n), ap (first_sum xs) e)

pub first_sum-le : (xs : List ℕ) (m n : ℕ) → m ≤ n → first_sum xs m ≤ first_sum xs n
first_sum-le xs m n order = let e : m + (n - m) ≡ n = omega arith in omega (arith, first_sum-grows xs m (n - m), ap (first_sum xs) e)

-- where more sum to more, one of those in between is some
pub first_sum-some : (xs : List ℕ) (m n : ℕ) → first_sum xs m < first_sum xs (m + n) → (k : ℕ) × (m ≤ k) × (k < m + n) × (0 < get_or xs k 0)
first_sum-some xs m zero less = let e : m + 0 ≡ m = omega arith in absurd (omega (arith, less, ap (first_sum xs) e))
first_sum-some xs m (suc n) less =
    let e : (m + n) + 1 ≡ m + suc n = omega arith in
    ⊎_elim
    (λ (h : 0 < get_or xs (m + n) 0). (m + n, omega arith, omega arith, h))
    (λ (h : get_or xs (m + n) 0 ≤ 0).
    let found = first_sum-some xs m n (omega (arith, less, first_sum-next xs (m + n), ap (first_sum xs) e)) in
    (found.0, found.1, omega (arith, found.2), found.3))
    (cases_lt 0 (get_or xs (m + n) 0))

-- each one is at most the sum
pub at_most_sum : (xs : List ℕ) (k n : ℕ) → k < n → get_or xs k 0 ≤ first_sum xs n
at_most_sum xs k n h = omega (arith, first_sum-next xs k, first_sum-le xs (k + 1) n (omega arith))
