-- The debt after each request: at most the fee, and where an interval ends at most what it owes beyond what it earns.
use Rattle.std.proofs.Common.{◌≡◌, ℕ, zero, suc, ◌+◌, ◌-◌, ◌*◌, ◌/◌, ◌<◌, ◌≤◌, ◌∙◌, refl, ap, ⊎_elim, Bool, true, false, cond, nat_le, List, [], ◌∷◌, length, arith, get_or, sum, sum_by, slice_range}
use Rattle.std.proofs.Math.Nat.{min-le_left, min-le_right}
use Rattle.std.proofs.lemmas.Bool.{cases_lt}
use Rattle.std.proofs.lemmas.List.{get_or_append_left, get_or_past, get_or_push, length_push}
use Rattle.std.proofs.lemmas.List.Sums.{sum_by-cons}
use Rattle.cache_model.specs.declared.objects.Object.{Object}
use Rattle.cache_model.specs.declared.intervals.Interval.{Interval}
use Rattle.cache_model.specs.Claim.{Terms, counts, request_at}
use Rattle.cache_model.specs.Objects.{IsNext}
use Rattle.cache_model.specs.Intervals.{interval_of}
use Rattle.budget_laws.specs.Budgets.{fee_of, owed, debt_after, debts, surplus_within}
use Rattle.interval_ends.specs.Ends.{eligible_to}
use Rattle.interval_ends.proofs.Ends.{next_ends_alone}

-- a debt is at most the fee
debt_after-le : (unit d : ℕ) (prices owing : List ℕ) (fee : ℕ) (ends : List Interval)
    → debt_after unit d prices owing fee ends ≤ fee
debt_after-le unit d prices owing fee [] = omega arith
debt_after-le unit d prices owing fee (i ∷ others) = min-le_left fee (owed unit prices owing i - d * i.gain)

module _ (terms : Terms) (unit d : ℕ) (trace : List Object) (prices : List ℕ) (q : ℕ) where
  -- the debts after the first n requests, and the one that comes next
  abbrev pub debts_of : ℕ → List ℕ
  debts_of n = debts terms unit d trace prices q n

  abbrev due : ℕ → ℕ
  due n = debt_after unit d prices (debts_of n) (fee_of terms unit trace q n) (eligible_to terms trace n)

  -- one debt a request
  length-debts : (n : ℕ) → length (debts_of n) ≡ n
  length-debts zero = refl
  length-debts (suc n) = omega (arith, length_push (debts_of n) (due n), length-debts n)

  -- later requests leave it
  debts-more : (t n k : ℕ) → t < n → get_or (debts_of (k + n)) t 0 ≡ get_or (debts_of n) t 0
  debts-more t n zero low = let e : zero + n ≡ n = omega arith in ap (λ m. get_or (debts_of m) t 0) e
  debts-more t n (suc k) low =
      let e : suc k + n ≡ suc (k + n) = omega arith in
      ap (λ m. get_or (debts_of m) t 0) e
      ∙ get_or_append_left (debts_of (k + n)) (due (k + n) ∷ []) 0 t (omega (arith, length-debts (k + n)))
      ∙ debts-more t n k low

  -- the debt after request t
  pub debt : ℕ → ℕ
  debt t = get_or (debts_of (length trace)) t 0

  debt-before : (t n : ℕ) → t < n → n ≤ length trace → debt t ≡ get_or (debts_of n) t 0
  unfolding debt
  debt-before t n low within =
      let e : length trace ≡ (length trace - n) + n = omega arith in
      ap (λ m. get_or (debts_of m) t 0) e ∙ debts-more t n (length trace - n) low

  debt-own : (t : ℕ) → t < length trace → debt t ≡ due t
  debt-own t within = debt-before t (suc t) (omega arith) (omega arith) ∙ get_or_push (debts_of t) (due t) 0 t (length-debts t)

  pub debt-le_fee : (t : ℕ) → t < length trace → debt t ≤ fee_of terms unit trace q t
  debt-le_fee t within =
      omega (
        arith,
        debt-own t within,
        debt_after-le unit d prices (debts_of t) (fee_of terms unit trace q t) (eligible_to terms trace t),
      )

  -- what the interval from a to b owes
  abbrev pub owing : ℕ → ℕ → ℕ
  owing a b = debt a + ((request_at trace a).size / unit) * sum (slice_range prices a b)

  -- the surpluses of the intervals that end at request t
  abbrev pub surplus_at : ℕ → ℕ
  surplus_at t = sum_by (surplus_within unit d prices (debts_of (length trace))) (eligible_to terms trace t)

  module _ (a t : ℕ) (next : IsNext trace a t) (fits : (request_at trace a).size ≤ terms.capacity)
      (counted : counts terms t ≡ true) where
    abbrev interval : Interval
    interval = interval_of terms.objective trace a t

    -- an interval that ends there leaves no more than it owes beyond what it earns
    pub debt-le_owing : debt t ≤ owing a t - d * interval.gain
    debt-le_owing =
        let fee : ℕ = fee_of terms unit trace q t in
        let own : debt t ≡ debt_after unit d prices (debts_of t) fee (interval ∷ [])
        = debt-own t next.within
        ∙ ap (debt_after unit d prices (debts_of t) fee) (next_ends_alone terms trace a t next fits counted) in
        omega (
          arith,
          own,
          min-le_right fee (owed unit prices (debts_of t) interval - d * interval.gain),
          debt-before a t next.before (omega (arith, next.within)),
        )

    -- and its surplus is what it earns beyond what it owes
    pub surplus-owing : surplus_at t ≡ d * interval.gain - owing a t
    unfolding debt
    surplus-owing =
        let f : Interval → ℕ = surplus_within unit d prices (debts_of (length trace)) in
        ap (sum_by f) (next_ends_alone terms trace a t next fits counted) ∙ omega (arith, sum_by-cons f interval [])

-- if writing has no price, nothing is owed
pub debts-unpriced : (terms : Terms) (unit d : ℕ) (trace : List Object) (prices : List ℕ) (t : ℕ)
    → get_or (debts terms unit d trace prices 0 (length trace)) t 0 ≡ 0
unfolding debt
debts-unpriced terms unit d trace prices t =
    let all : List ℕ = debts terms unit d trace prices 0 (length trace) in
    ⊎_elim
    (λ (low : t < length trace).
    let nothing : fee_of terms unit trace 0 t ≡ 0 = none (nat_le terms.warmup t) ((request_at trace t).size / unit) in
    omega (arith, debt-le_fee terms unit d trace prices 0 t low))
    (λ (high : length trace ≤ t).
    get_or_past all t 0 (omega (arith, length-debts terms unit d trace prices 0 (length trace))))
    (cases_lt t (length trace))
  where
    none : (past : Bool) (n : ℕ) → cond past (0 * n) 0 ≡ 0
    none true n = omega arith
    none false n = refl
