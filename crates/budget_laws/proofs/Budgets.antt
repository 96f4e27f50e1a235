-- The bound within a budget.
use Rattle.std.proofs.Common.{◌≡◌, ℕ, zero, suc, ◌+◌, ◌-◌, ◌*◌, ◌/◌, ◌<◌, ◌≤◌, ◌∙◌, refl, ap, Bool, true, false, ◌&&◌, cond, nat_le, List, [], ◌∷◌, length, arith, ⊎_elim, sum, sum_by}
use Rattle.std.specs.Int.{div_ceil}
use Rattle.std.specs.List.{range_with_len}
use Rattle.std.proofs.Math.Nat.{div-mul-le_self, div-zero, mul-le-mul_left, mul-le-mul_right}
use Rattle.std.proofs.lemmas.Bool.{cases_lt}
use Rattle.std.proofs.lemmas.Grind.{div_ceil_times}
use Rattle.std.proofs.lemmas.Nat.{le-div}
use Rattle.std.proofs.lemmas.List.Sums.{sum_by-cons, sum_by-le-sum_by}
use Rattle.cache_model.specs.Claim.{counts, gain_of, holds, before_request, request_at}
use Rattle.cache_model.specs.Objects.{numbers_of}
use Rattle.cache_model.specs.Intervals.{eligible_intervals, surplus}
use Rattle.cache_model.specs.Written.{writes, written_bytes}
use Rattle.cache_model.proofs.Headline.{valid_bounds}
use Rattle.cache_model.proofs.Ranges.{loads_paid, sum_by-times}
use Rattle.cache_model.proofs.Sums.{sum_by-agree, sum_by-nothing}
use Rattle.budget_laws.specs.Budgets.{debts, surplus_within, surpluses_within}
use Rattle.budget_laws.specs.Laws.{NoPolicyScoresMoreWithin, EveryBudget, WritesForAScore, BudgetsRise, NoBudget, PlainBoundsBudgets}
use Rattle.budget_laws.proofs.Debts.{debts-unpriced}
use Rattle.interval_ends.proofs.Ends.{sums_by_ends}
use Rattle.interval_ends.proofs.Holding.{held-weight}
use Rattle.budget_laws.proofs.Within.{load, priced, so_far}

-- what a test lets pass, times a number
times_cond : (n k : ℕ) (b : Bool) → n * cond b k 0 ≡ cond b (n * k) 0
times_cond n k true = refl
times_cond n k false = omega arith

-- a greater number has no fewer units
units-rise : (m n unit : ℕ) → m ≤ n → m / unit ≤ n / unit
units-rise m n zero low = omega (arith, div-zero m, div-zero n)
units-rise m n (suc u) low = le-div (m / suc u) n (suc u) (omega arith) (omega (arith, div-mul-le_self m (suc u)))

module _ (unit : ℕ) (passes : ℕ → Bool) (size : ℕ → ℕ) where
  units-mul-le : (xs : List ℕ)
      → sum_by (λ t. cond (passes t) (size t / unit) 0) xs * unit ≤ sum_by (λ t. cond (passes t) (size t) 0) xs
  units-mul-le [] = omega arith
  units-mul-le (x ∷ xs) =
      omega (
        arith,
        units-mul-le xs,
        at (passes x),
        ap (λ n. n * unit) (sum_by-cons (λ t. cond (passes t) (size t / unit) 0) x xs),
        sum_by-cons (λ t. cond (passes t) (size t) 0) x xs,
      )
    where
      at : (b : Bool) → cond b (size x / unit) 0 * unit ≤ cond b (size x) 0
      at true = div-mul-le_self (size x) unit
      at false = omega arith

-- each rounded down, units sum to no more than those of the sum
units-le : (unit : ℕ) (passes : ℕ → Bool) (size : ℕ → ℕ) (xs : List ℕ)
    → sum_by (λ t. cond (passes t) (size t / unit) 0) xs ≤ sum_by (λ t. cond (passes t) (size t) 0) xs / unit
units-le zero passes size xs =
    omega (arith, sum_by-nothing (λ t. cond (passes t) (size t / 0) 0) xs (λ t. at (passes t) (div-zero (size t))))
  where
    at : {n : ℕ} (b : Bool) → n ≡ 0 → cond b n 0 ≡ 0
    at true e = e
    at false e = refl
units-le (suc u) passes size xs = le-div _ _ (suc u) (omega arith) (units-mul-le (suc u) passes size xs)

-- what is paid for writes is within the price of the units that are written
paid-le : (unit q : ℕ) (passes : ℕ → Bool) (size : ℕ → ℕ) (xs : List ℕ)
    → sum_by (λ t. cond (passes t) (q * (size t / unit)) 0) xs ≤ (sum_by (λ t. cond (passes t) (size t) 0) xs / unit) * q
paid-le unit q passes size xs =
    let f : ℕ → ℕ = λ t. cond (passes t) (size t / unit) 0 in
    omega (
      arith,
      sum_by-times q f xs,
      sum_by-agree (λ t. q * f t) (λ t. cond (passes t) (q * (size t / unit)) 0) xs
          (λ t. times_cond q (size t / unit) (passes t)),
      mul-le-mul_right q (units-le unit passes size xs),
    )

-- over the denominator, a score is what the requests earn
score-hits : (d : ℕ) (earns : ℕ → Bool) (gain : ℕ → ℕ) (requests : List ℕ)
    → d * sum_by (λ t. cond (earns t) (gain t) 0) requests ≡ sum_by (λ t. cond (earns t) (d * gain t) 0) requests
score-hits d earns gain requests =
    sum_by-times d (λ t. cond (earns t) (gain t) 0) requests
    ∙ sum_by-agree (λ t. d * cond (earns t) (gain t) 0) (λ t. cond (earns t) (d * gain t) 0) requests
    (λ t. times_cond d (gain t) (earns t))

pub every_budget : EveryBudget
every_budget terms unit d trace prices q contents allowed same =
    let steps : ℕ → ℕ = priced terms unit d trace prices q contents allowed same in
    omega (
      arith,
      so_far terms unit d trace prices q contents allowed same (length trace) (omega arith),
      score-hits d (λ t. counts terms t && holds (before_request contents t) (request_at trace t))
          (λ t. gain_of terms.objective (request_at trace t)) (numbers_of trace),
      loads_paid (terms.capacity / unit) (load terms unit d trace prices q contents allowed same) prices
          (λ t. held-weight terms.capacity trace contents allowed unit (t + 1)),
      ap (λ k. sum_by steps (range_with_len 0 k)) same,
      paid-le unit q (λ t. nat_le terms.warmup t && writes terms.fills trace contents t)
          (λ t. (request_at trace t).size) (numbers_of trace),
      sums_by_ends (surplus_within unit d prices (debts terms unit d trace prices q (length trace))) terms trace,
    )

pub no_policy_scores_more_within : NoPolicyScoresMoreWithin
no_policy_scores_more_within terms unit d trace prices q budget contents allowed same within =
    let written : ℕ = written_bytes terms.warmup terms.fills trace contents in
    omega (
      arith,
      every_budget terms unit d trace prices q contents allowed same,
      mul-le-mul_right q (units-rise written budget unit within),
    )

-- rounded up, a quotient is at most any number of divisors that make it up
div_ceil-le : (n q most : ℕ) → 0 < q → n ≤ most * q → div_ceil n q ≤ most
div_ceil-le n q most positive enough =
    ⊎_elim
    (λ (over : most < div_ceil n q).
    let next : suc most ≤ div_ceil n q = omega arith in
    absurd (omega (arith, (div_ceil_times n q positive).1, mul-le-mul_right q next)))
    (λ (within : div_ceil n q ≤ most). within)
    (cases_lt most (div_ceil n q))

pub writes_for_a_score : WritesForAScore
writes_for_a_score terms unit d trace prices q claimed contents positive allowed same scored =
    let written : ℕ = written_bytes terms.warmup terms.fills trace contents in
    let free : ℕ = (terms.capacity / unit) * sum prices in
    let over : ℕ = surpluses_within terms unit d trace prices q in
    div_ceil-le (d * claimed - free - over) q (written / unit) positive
    (omega (arith, every_budget terms unit d trace prices q contents allowed same, mul-le-mul_left d scored))

pub budgets_rise : BudgetsRise
budgets_rise terms unit d trace prices q budget more low =
    omega (arith, mul-le-mul_right q (units-rise budget more unit low))

pub no_budget : NoBudget
no_budget terms unit d trace prices budget contents =
    let owing : List ℕ = debts terms unit d trace prices 0 (length trace) in
    let equal : surpluses_within terms unit d trace prices 0 ≡ sum_by (surplus unit d prices) (eligible_intervals terms trace)
    = sum_by-agree (surplus_within unit d prices owing) (surplus unit d prices) (eligible_intervals terms trace)
    (λ i. omega (arith, debts-unpriced terms unit d trace prices i.start)) in (
      omega arith,
      sum_by-le-sum_by _ _ (numbers_of trace)
          (λ t. at (nat_le terms.warmup t) (writes terms.fills trace contents t) (request_at trace t).size),
    )
  where
    at : (past wrote : Bool) (n : ℕ) → cond (past && wrote) n 0 ≤ cond past n 0
    at true true n = omega arith
    at true false n = omega arith
    at false wrote n = omega arith

pub plain_bounds_budgets : PlainBoundsBudgets
plain_bounds_budgets trace fills h records budget contents valid allowed within =
    (valid_bounds trace fills h records valid).no_policy_scores_more contents allowed
