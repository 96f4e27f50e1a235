-- Sums over a range of steps, step by step.
use Rattle.std.proofs.Common.{◌≡◌, ℕ, suc, zero, ◌+◌, ◌-◌, ◌*◌, ◌<◌, ◌≤◌, ◌∙◌, sym, refl, ap, Bool, true, false, ◌&&◌, cond, nat_lt, nat_le, leb, List, [], ◌∷◌, length, arith, ⊎_elim, sum, sum_by, take, drop, get_or, slice_range}
use Rattle.std.specs.List.{range_with_len}
use Rattle.std.proofs.Math.Nat.{mul-le-mul_right}
use Rattle.std.proofs.lemmas.Bool.{cases_lt, lt-ltb, le-ltb, le-leb, lt-leb, and_left, and_right}
use Rattle.std.proofs.lemmas.List.Sums.{sum_by-cons}
use Rattle.cache_model.proofs.Sums.{sum_by-range, sum_by-nothing, sum_by-agree}
use Rattle.cache_model.proofs.Pairs.{ltb-suc, slice_range-suc}

-- one step further
pub leb-suc : (a b : ℕ) → leb (suc a) (suc b) ≡ leb a b
leb-suc a b = ⊎_elim (λ (h : b < a). lt-leb (suc a) (suc b) (omega arith) ∙ sym (lt-leb a b h)) (λ (h : a ≤ b). le-leb (suc a) (suc b) (omega arith) ∙ sym (le-leb a b h)) (cases_lt b a)

-- step t is in the range from a to b
abbrev pub within : ℕ → ℕ → ℕ → Bool
within a b t = nat_le a t && nat_lt t b

pub within-suc : (a b t : ℕ) → within (suc a) (suc b) (suc t) ≡ within a b t
within-suc a b t = ap (λ s. s && nat_lt (suc t) (suc b)) (leb-suc a t) ∙ ap (λ s. nat_le a t && s) (ltb-suc t b)

pub within-suc_end : (b t : ℕ) → within 0 (suc b) (suc t) ≡ within 0 b t
within-suc_end b t = ap (λ s. s && nat_lt (suc t) (suc b)) (le-leb 0 (suc t) (omega arith) ∙ sym (le-leb 0 t (omega arith))) ∙ ap (λ s. nat_le 0 t && s) (ltb-suc t b)

-- no elements of an empty list
pub take_drop_nil : (k a : ℕ) → take {A = ℕ} k (drop a []) ≡ []
take_drop_nil zero a = refl
take_drop_nil (suc k) zero = refl
take_drop_nil (suc k) (suc a) = refl

-- the price of step t, if the range has it
abbrev pub priced : List ℕ → ℕ → ℕ → ℕ → ℕ
priced prices a b t = cond (within a b t) (get_or prices t 0) 0

-- a range's sum, price by price
pub range_sum : (prices : List ℕ) (a b : ℕ) → sum (slice_range prices a b) ≡ sum_by (priced prices a b) (range_with_len 0 (length prices))
range_sum [] a b = ap sum (take_drop_nil (b - a) a)
range_sum (q ∷ prices) a zero =
    let e : 0 - a ≡ 0 = omega arith in
    ap (λ k. sum (take k (drop a (q ∷ prices)))) e
    ∙ sym (sum_by-nothing (priced (q ∷ prices) a 0) (range_with_len 0 (suc (length prices)))
    (λ t. ap (λ s. cond s (get_or (q ∷ prices) t 0) 0) (and_right (nat_le a t) _ (le-ltb t 0 (omega arith)))))
range_sum (q ∷ prices) zero (suc b) =
    let e : suc b - 0 ≡ suc b = omega arith in
    let e' : b - 0 ≡ b = omega arith in
    let whole : sum (slice_range (q ∷ prices) 0 (suc b)) ≡ q + sum (take b prices) = ap (λ k. sum (take k (q ∷ prices))) e ∙ sum_by-cons (λ (n : ℕ). n) q (take b prices) in
    let rest : sum (take b prices) ≡ sum_by (priced prices 0 b) (range_with_len 0 (length prices)) = ap (λ k. sum (take k prices)) (sym e') ∙ range_sum prices 0 b in
    let first : priced (q ∷ prices) 0 (suc b) 0 ≡ q = ap (λ s. cond s q 0) (lt-ltb 0 (suc b) (omega arith)) in
    omega (
      arith,
      sum_by-range (priced (q ∷ prices) 0 (suc b)) (length prices),
      sum_by-agree (λ t. priced (q ∷ prices) 0 (suc b) (suc t)) (priced prices 0 b) (range_with_len 0 (length prices))
          (λ t. ap (λ s. cond s (get_or prices t 0) 0) (within-suc_end b t)),
    )
range_sum (q ∷ prices) (suc a) (suc b) =
    let first : priced (q ∷ prices) (suc a) (suc b) 0 ≡ 0 = ap (λ s. cond s q 0) (and_left _ _ (lt-leb (suc a) 0 (omega arith))) in
    slice_range-same a b
    ∙ omega (
      arith,
      range_sum prices a b,
      sum_by-range (priced (q ∷ prices) (suc a) (suc b)) (length prices),
      sum_by-agree (λ t. priced (q ∷ prices) (suc a) (suc b) (suc t)) (priced prices a b) (range_with_len 0 (length prices))
          (λ t. ap (λ s. cond s (get_or prices t 0) 0) (within-suc a b t)),
    )
  where
    slice_range-same : (a b : ℕ) → sum (slice_range (q ∷ prices) (suc a) (suc b)) ≡ sum (slice_range prices a b)
    slice_range-same a b = ap sum (slice_range-suc q prices a b)

-- the sum of sums, and that of multiples
pub sum_by-add : (f g : ℕ → ℕ) (xs : List ℕ) → sum_by (λ t. f t + g t) xs ≡ sum_by f xs + sum_by g xs
sum_by-add f g [] = refl
sum_by-add f g (x ∷ xs) = omega (arith, sum_by-add f g xs, sum_by-cons f x xs, sum_by-cons g x xs, sum_by-cons (λ t. f t + g t) x xs)

pub sum_by-times : (k : ℕ) (f : ℕ → ℕ) (xs : List ℕ) → k * sum_by f xs ≡ sum_by (λ t. k * f t) xs
sum_by-times k f [] = omega arith
sum_by-times k f (x ∷ xs) = omega (arith, sum_by-times k f xs, ap (λ n. k * n) (sum_by-cons f x xs), sum_by-cons (λ t. k * f t) x xs)

pub cond-mul : (b : Bool) (f p : ℕ) → f * cond b p 0 ≡ cond b f 0 * p
cond-mul true f p = refl
cond-mul false f p = omega arith

-- loads within the units are paid no more than the units are
pub loads_paid : (units : ℕ) (load : ℕ → ℕ) (prices : List ℕ) → ((t : ℕ) → load t ≤ units)
    → sum_by (λ t. load t * get_or prices t 0) (range_with_len 0 (length prices)) ≤ units * sum prices
loads_paid units load [] within_units = omega arith
loads_paid units load (q ∷ prices) within_units =
    omega (
      arith,
      sum_by-range (λ t. load t * get_or (q ∷ prices) t 0) (length prices),
      loads_paid units (λ t. load (suc t)) prices (λ t. within_units (suc t)),
      mul-le-mul_right q (within_units 0),
      ap (λ n. units * n) (sum_by-cons (λ (n : ℕ). n) q prices),
    )
