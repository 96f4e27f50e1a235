-- The sum over a range of a list.
use Rattle.std.proofs.Common.{◌≡◌, ℕ, suc, zero, ◌+◌, ◌-◌, ◌≤◌, ◌∙◌, refl, ap, List, [], ◌∷◌, take, drop, arith, sum, slice_range}
use Rattle.std.proofs.lemmas.List.Sums.{sum_by-cons}

-- the sum of a range, with what stands before it, is what stands before its end
pub sum-slice_range : (xs : List ℕ) (a b : ℕ) → a ≤ b → sum (slice_range xs a b) + sum (take a xs) ≡ sum (take b xs)
sum-slice_range xs zero b order = let e : b - 0 ≡ b = omega arith in omega (arith, ap (λ k. sum (take k xs)) e)
sum-slice_range [] (suc a) zero order = absurd (omega arith)
sum-slice_range [] (suc a) (suc b) order = let e : suc b - suc a ≡ b - a = omega arith in ap (λ k. sum (take {A = ℕ} k []) + 0) e ∙ none (b - a)
  where
    none : (k : ℕ) → sum (take {A = ℕ} k []) + 0 ≡ 0
    none zero = refl
    none (suc k) = refl
sum-slice_range (x ∷ xs) (suc a) zero order = absurd (omega arith)
sum-slice_range (x ∷ xs) (suc a) (suc b) order =
    let e : suc b - suc a ≡ b - a = omega arith in
    omega (arith, ap (λ k. sum (take k (drop a xs))) e, sum-slice_range xs a b (omega arith), sum_by-cons (λ (n : ℕ). n) x (take a xs), sum_by-cons (λ (n : ℕ). n) x (take b xs))
