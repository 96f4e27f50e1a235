-- Request by request: what allowed contents earn is within the prices, the fees of what they write and the surpluses.
use Rattle.std.proofs.Common.{◌≡◌, ℕ, zero, suc, ◌+◌, ◌-◌, ◌*◌, ◌/◌, ◌<◌, ◌≤◌, refl, ap, Bool, true, false, not, ◌&&◌, ◌||◌, cond, nat_le, List, [], ◌∷◌, length, arith, get_or, sum_by}
use Rattle.std.specs.List.{range_with_len}
use Rattle.std.proofs.lemmas.List.Sums.{sum_by-cons}
use Rattle.cache_model.specs.declared.objects.Object.{Object}
use Rattle.cache_model.specs.Claim.{Terms, counts, gain_of, holds, before_request, IsAllowed, only_fills, request_at}
use Rattle.cache_model.specs.Objects.{IsNext}
use Rattle.cache_model.specs.Written.{writes}
use Rattle.cache_model.proofs.Duality.{same_object-true, without, sum_by-without, sum_by-without-le}
use Rattle.cache_model.proofs.Pairs.{weight_of}
use Rattle.cache_model.proofs.Streams.{sum_by-range_last}
use Rattle.budget_laws.proofs.Debts.{debt, debt-le_fee, debt-le_owing, surplus-owing, surplus_at, owing}
use Rattle.budget_laws.proofs.Owing.{anew, next-anew}
use Rattle.interval_ends.proofs.Owing.{owes, owes-next}
use Rattle.interval_ends.proofs.Holding.{all_entered, held-apart, held-fits, held-next}

-- one request: past the warm-up or not, it only fills or not, its object was held or not, and is now
one_request : (past fill was now : Bool) (gain fee debt owe top : ℕ)
    → debt ≤ cond past fee 0
    → ((past && not fill) ≡ true → was ≡ true → (debt ≤ owe - gain) × (top ≡ gain - owe))
    → cond ((past && not fill) && was) gain 0 + cond now debt 0
    ≤ cond was owe 0 + cond (past && (now && (fill || not was))) fee 0 + top
one_request false fill was true gain fee debt owe top low hit = omega arith
one_request false fill was false gain fee debt owe top low hit = omega arith
one_request true true was true gain fee debt owe top low hit = omega arith
one_request true true was false gain fee debt owe top low hit = omega arith
one_request true false false true gain fee debt owe top low hit = omega arith
one_request true false false false gain fee debt owe top low hit = omega arith
one_request true false true true gain fee debt owe top low hit = omega (arith, (hit refl refl).0, (hit refl refl).1)
one_request true false true false gain fee debt owe top low hit = omega (arith, (hit refl refl).1)

-- what r owes is among what the contents owe
owed-held : (f : Object → ℕ) (r : Object) (held : List Object)
    → cond (holds held r) (f r) 0 + sum_by f (without r held) ≤ sum_by f held
owed-held f r held = at (holds held r) refl
  where
    at : (t : Bool) → holds held r ≡ t → cond t (f r) 0 + sum_by f (without r held) ≤ sum_by f held
    at true e = sum_by-without f r held e
    at false e = omega (arith, sum_by-without-le f r held)

-- the weights at one more price
sum_by-priced : (f w : Object → ℕ) (p : ℕ) (xs : List Object)
    → sum_by (λ x. f x + w x * p) xs ≡ sum_by f xs + sum_by w xs * p
sum_by-priced f w p [] = omega arith
sum_by-priced f w p (x ∷ xs) =
    omega (
      arith,
      sum_by-priced f w p xs,
      sum_by-cons f x xs,
      ap (λ n. n * p) (sum_by-cons w x xs),
      sum_by-cons (λ x. f x + w x * p) x xs,
    )

module _ (terms : Terms) (unit d : ℕ) (trace : List Object) (prices : List ℕ) (q : ℕ)
    (contents : List (List Object)) (allowed : IsAllowed terms.capacity trace contents) (same : length prices ≡ length trace) where
  -- the object of request t, what a hit on it is worth, what is held before it, and the debt after it
  abbrev asked : ℕ → Object
  asked t = request_at trace t

  abbrev gain : ℕ → ℕ
  gain t = d * gain_of terms.objective (asked t)

  abbrev held : ℕ → List Object
  held t = before_request contents t

  abbrev debt_at : ℕ → ℕ
  debt_at t = debt terms unit d trace prices q t

  -- what an object owes before request t
  abbrev owe : ℕ → Object → ℕ
  owe t = owes trace prices (weight_of unit) debt_at t

  -- what request t earns, pays for a write, and adds to the surpluses; and what is paid for the step after it
  abbrev pub hit : ℕ → ℕ
  hit t = cond (counts terms t && holds (held t) (asked t)) (gain t) 0

  abbrev pub paid : ℕ → ℕ
  paid t = cond (nat_le terms.warmup t && writes terms.fills trace contents t) (q * ((asked t).size / unit)) 0

  abbrev pub over : ℕ → ℕ
  over t = surplus_at terms unit d trace prices q t

  abbrev pub load : ℕ → ℕ
  load t = sum_by (weight_of unit) (held (t + 1))

  abbrev pub priced : ℕ → ℕ
  priced t = load t * get_or prices t 0

  -- the debt and the surplus at a request that hits and counts
  at_hit : (t : ℕ) → t < length trace → counts terms t ≡ true → holds (held t) (asked t) ≡ true
      → (debt_at t ≤ owe t (asked t) - gain t) × (over t ≡ gain t - owe t (asked t))
  at_hit t within counted has = from (held-next terms.capacity trace contents allowed t within has)
    where
      from : (a : ℕ) × IsNext trace a t → (debt_at t ≤ owe t (asked t) - gain t) × (over t ≡ gain t - owe t (asked t))
      from (a, next) =
          let here : asked a ≡ asked t = same_object-true (asked a) (asked t) next.same in
          let fits : (asked a).size ≤ terms.capacity
          = omega (arith, ap (λ (x : Object). x.size) here, held-fits terms.capacity trace contents allowed t (asked t) has) in
          let owes_so : owe t (asked t) ≡ owing terms unit d trace prices q a t
          = owes-next trace prices (weight_of unit) debt_at a t same next in (
            omega (arith, owes_so, debt-le_owing terms unit d trace prices q a t next fits counted),
            omega (arith, owes_so, surplus-owing terms unit d trace prices q a t next fits counted),
          )

  -- one request, and the step after it
  step : (t : ℕ) → t < length trace
      → hit t + sum_by (owe (suc t)) (held (t + 1)) ≤ sum_by (owe t) (held t) + priced t + paid t + over t
  unfolding owes
  step t within =
      let r : Object = asked t in
      let new : Object → ℕ = anew r (debt_at t) (owe t) in
      let one_step : sum_by (owe (suc t)) (held (t + 1)) ≡ sum_by new (held (t + 1)) + priced t
      = sum_by-priced new (weight_of unit) (get_or prices t 0) (held (t + 1)) in
      omega (
        arith,
        one_step,
        next-anew r (debt_at t) (owe t) (held t) (held (t + 1))
            (held-apart terms.capacity trace contents allowed (t + 1) (omega arith))
            (all_entered terms.capacity trace contents allowed t within),
        owed-held (owe t) r (held t),
        one_request (nat_le terms.warmup t) (only_fills terms.fills t) (holds (held t) r) (holds (held (t + 1)) r)
            (gain t) (q * (r.size / unit)) (debt_at t) (owe t r) (over t)
            (debt-le_fee terms unit d trace prices q t within) (at_hit t within),
      )

  -- all requests so far: what they earned and what is owed is within what was paid, and the surpluses
  pub so_far : (n : ℕ) → n ≤ length trace
      → sum_by hit (range_with_len 0 n) + sum_by (owe n) (held n)
      ≤ sum_by priced (range_with_len 0 n) + sum_by paid (range_with_len 0 n) + sum_by over (range_with_len 0 n)
  so_far zero within = omega (arith, ap (sum_by (owe 0)) allowed.empty_at_first)
  so_far (suc n) within =
      let e : suc n ≡ n + 1 = omega arith in
      omega (
        arith,
        so_far n (omega arith),
        step n (omega arith),
        ap (λ k. sum_by (owe (suc n)) (held k)) e,
        sum_by-range_last hit n,
        sum_by-range_last priced n,
        sum_by-range_last paid n,
        sum_by-range_last over n,
      )
