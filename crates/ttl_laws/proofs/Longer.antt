-- With a longer ttl each start stays on at least as long, and its run is worth no less.
use Rattle.std.proofs.Common.{◌≡◌, ℕ, zero, suc, ◌+◌, ◌*◌, ◌/◌, ◌≤◌, inl, inr, refl, Bool, true, false, cond, nat_le, List, ◌∷◌, length, arith, get_or, map, filter}
use Rattle.std.specs.List.{AllByRecursion}
use Rattle.std.proofs.lemmas.Bool.{le-leb, leb-true}
use Rattle.std.proofs.lemmas.List.Sums.{sum_by-le-sum_by}
use Rattle.cache_model.specs.declared.objects.Object.{Object}
use Rattle.cache_model.specs.Claim.{Terms, counts, gain_of, only_fills, request_at, same_object}
use Rattle.cache_model.specs.Objects.{objects_of}
use Rattle.freshness.specs.Stale.{clock}
use Rattle.ttl_laws.specs.Runs.{HasOne, Start, new_start, worth, with_gain, with_price, Walk, going_on, with_request, with_step, walk, greatest_worth}
use Rattle.ttl_laws.specs.Laws.{BoundsRiseWithTtl}
use Rattle.ttl_laws.proofs.Starts.{one-map, one-filter, greatest-any, greatest-le}
use Rattle.ttl_laws.proofs.Objects.{all-map, all-pass}

-- a start at the same clock, whose run is worth no less
abbrev IsNoWorse : Start → Start → Type 0
IsNoWorse s r = (r.clock ≡ s.clock) × (s.before + s.earned + r.priced ≤ r.before + r.earned + s.priced)

-- each start has one that is no worse
abbrev AllHave : List Start → List Start → Type 0
AllHave longer starts = AllByRecursion (λ s. HasOne (IsNoWorse s) longer) starts

-- a walk is no worse than another
abbrev IsAbove : Walk → Walk → Type 0
IsAbove w v = (w.top ≤ v.top) × AllHave v.starts w.starts

-- so is the greatest worth
worth-le : (s : Start) (longer : List Start) → HasOne (IsNoWorse s) longer → HasOne (λ n. worth s ≤ n) (map worth longer)
worth-le s longer = one-map (IsNoWorse s) (λ n. worth s ≤ n) worth longer (λ r so. omega (arith, so.1))

priced : (price : ℕ) (w v : Walk) → IsAbove w v → IsAbove (with_step price w) (with_step price v)
priced price w v above = (
  above.0,
  all-map (λ s. HasOne (IsNoWorse s) v.starts) (λ s. HasOne (IsNoWorse s) (map (with_price price) v.starts)) (with_price price) w.starts
      (λ s. one-map (IsNoWorse s) (IsNoWorse (with_price price s)) (with_price price) v.starts (λ r so. (so.0, omega (arith, so.1))))
      above.1,
)

module _ (fills : Bool) (now ttl longer gain : ℕ) (low : ttl ≤ longer) (w v : Walk) (above : IsAbove w v) where
  abbrev after : Walk
  after = with_request fills now ttl gain w

  abbrev after_longer : Walk
  after_longer = with_request fills now longer gain v

  -- one that goes on has one that goes on
  on : (s : Start) → HasOne (IsNoWorse s) v.starts → nat_le now (s.clock + ttl) ≡ true
      → HasOne (IsNoWorse (with_gain gain s)) (going_on false now longer gain v.starts)
  on s one fresh =
      one-map (IsNoWorse s) (IsNoWorse (with_gain gain s)) (with_gain gain) (filter (λ r. nat_le now (r.clock + longer)) v.starts)
      (λ r so. (so.0, omega (arith, so.1)))
      (one-filter (IsNoWorse s) (λ r. nat_le now (r.clock + longer)) v.starts
      (λ r so. le-leb now (r.clock + longer) (omega (arith, so.0, leb-true now (s.clock + ttl) fresh))) one)

  all_on : (f : Bool) → AllByRecursion (λ s. HasOne (IsNoWorse s) (new_start now v.top ∷ going_on f now longer gain v.starts)) (going_on f now ttl gain w.starts)
  all_on true = tt
  all_on false =
      all-map
      (λ s. HasOne (IsNoWorse (with_gain gain s)) (going_on false now longer gain v.starts))
      (λ s. HasOne (IsNoWorse s) (new_start now v.top ∷ going_on false now longer gain v.starts))
      (with_gain gain) (filter (λ s. nat_le now (s.clock + ttl)) w.starts) (λ s one. inr one)
      (all-pass (λ s. HasOne (IsNoWorse s) v.starts) (λ s. HasOne (IsNoWorse (with_gain gain s)) (going_on false now longer gain v.starts))
      (λ s. nat_le now (s.clock + ttl)) w.starts on above.1)

  all_after : AllHave after_longer.starts after.starts
  all_after = (inl (refl, omega (arith, above.0)), all_on fills)

  asked : IsAbove after after_longer
  asked = (
    greatest-le 0 after_longer.top (map worth after.starts) (omega arith)
        (all-map (λ s. HasOne (IsNoWorse s) after_longer.starts) (λ n. n ≤ after_longer.top) worth after.starts
        (λ s one. greatest-any 0 (worth s) (map worth after_longer.starts) (worth-le s after_longer.starts one)) all_after),
    all_after,
  )

module _ (terms : Terms) (unit d : ℕ) (trace : List Object) (times prices : List ℕ) (ttl longer : ℕ) (low : ttl ≤ longer) where
  all_above : (n : ℕ) (x : Object)
      → IsAbove (walk terms unit d trace times prices ttl n x) (walk terms unit d trace times prices longer n x)
  all_above zero x = (omega arith, tt)
  all_above (suc t) x =
      priced (x.size / unit * get_or prices t 0) (cond (same_object (request_at trace t) x) asked_short short)
      (cond (same_object (request_at trace t) x) asked_long long) (at (same_object (request_at trace t) x) (all_above t x))
    where
      short : Walk
      short = walk terms unit d trace times prices ttl t x

      long : Walk
      long = walk terms unit d trace times prices longer t x

      gain : ℕ
      gain = cond (counts terms t) (d * gain_of terms.objective x) 0

      asked_short : Walk
      asked_short = with_request (only_fills terms.fills t) (clock times t) ttl gain short

      asked_long : Walk
      asked_long = with_request (only_fills terms.fills t) (clock times t) longer gain long

      at : (b : Bool) → IsAbove short long → IsAbove (cond b asked_short short) (cond b asked_long long)
      at true above = asked (only_fills terms.fills t) (clock times t) ttl longer gain low short long above
      at false above = above

  pub greatest-rises : (x : Object)
      → greatest_worth terms unit d trace times prices ttl x ≤ greatest_worth terms unit d trace times prices longer x
  greatest-rises x = at (nat_le x.size terms.capacity)
    where
      at : (b : Bool) → cond b (walk terms unit d trace times prices ttl (length trace) x).top 0
          ≤ cond b (walk terms unit d trace times prices longer (length trace) x).top 0
      at true = (all_above (length trace) x).0
      at false = omega arith

pub bounds_rise_with_ttl : BoundsRiseWithTtl
bounds_rise_with_ttl terms unit d trace times prices ttl longer low =
    omega (
      arith,
      sum_by-le-sum_by (greatest_worth terms unit d trace times prices ttl) (greatest_worth terms unit d trace times prices longer)
          (objects_of trace) (greatest-rises terms unit d trace times prices ttl longer low),
    )
