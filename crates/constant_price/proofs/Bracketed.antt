-- The least price near a guess, from the intervals that decide it.
use Rattle.std.proofs.Common.{◌≡◌, ℕ, zero, suc, ◌+◌, ◌-◌, ◌^◌, ◌<◌, ◌≤◌, ⊎_elim, arith, subst, min, max, List, [], ◌∷◌}
use Rattle.std.proofs.lemmas.Bool.{cases_lt}
use Rattle.cache_model.specs.declared.intervals.Interval.{Interval}
use Rattle.interval_maker.specs.Timelines.{IsInterval}
use Rattle.constant_price.specs.Surpluses.{fall_at, fall_of}
use Rattle.constant_price.proofs.Falls.{fall_at-later, fall_of-later, gain_within}

-- what never rises from a number to the next is no greater later
later-by : (f : ℕ → ℕ) → ((q : ℕ) → f (q + 1) ≤ f q) → (q n : ℕ) → f (q + n) ≤ f q
later-by f falls q zero = let e : q + 0 ≡ q = omega arith in rw e (omega arith)
later-by f falls q (suc n) = let e : q + suc n ≡ q + n + 1 = omega arith in rw e (omega (arith, falls (q + n), later-by f falls q n))

later : (f : ℕ → ℕ) → ((q : ℕ) → f (q + 1) ≤ f q) → (q p : ℕ) → q ≤ p → f p ≤ f q
later f falls q p order = let e : q + (p - q) ≡ p = omega arith in subst (λ n. f n ≤ f q) e (later-by f falls q (p - q))

-- the fall of an interval, and of all, is no greater at a higher price
pub fall_at-order : (unit d : ℕ) (i : Interval) (q p : ℕ) → q ≤ p → fall_at unit d p i ≤ fall_at unit d q i
fall_at-order unit d i q p order = later (λ q. fall_at unit d q i) (λ q. fall_at-later unit d q i) q p order

pub fall_of-order : (unit d : ℕ) (items : List Interval) (q p : ℕ) → q ≤ p → fall_of unit d p items ≤ fall_of unit d q items
fall_of-order unit d items q p order = later (λ q. fall_of unit d q items) (λ q. fall_of-later unit d q items) q p order

-- where the fall passes the growth at a price, it does so at each up to it
pub above-to : (unit d growth price low : ℕ) (items : List Interval) → growth < fall_of unit d price items → low ≡ price + 1 → (q : ℕ) → q < low → growth < fall_of unit d q items
above-to unit d growth price low items above next q under = omega (arith, above, fall_of-order unit d items q price (omega (arith, next)))

-- the fall of an interval is small
pub fall-fits : (steps unit d q : ℕ) (i : Interval) → d ≤ 2 ^ 48 → IsInterval steps i → fall_at unit d q i ≤ 2 ^ 96
fall-fits steps unit d q i small is = omega (arith, gain_within steps d i small is)

-- an interval that falls as much at two prices does so between
pub steady-between : (unit d : ℕ) (i : Interval) (low high q : ℕ) → low ≤ q → q ≤ high → fall_at unit d low i ≡ fall_at unit d high i → fall_at unit d q i ≡ fall_at unit d high i
steady-between unit d i low high q from to same = omega (arith, fall_at-order unit d i low q from, fall_at-order unit d i q high to, same)

-- the least price of those that decide, moved between the two, is the least of all
module _ (unit d : ℕ) (items deciding : List Interval) (growth steady low high r : ℕ)
    (order : low < high) (few : steady ≤ growth)
    (falls : (q : ℕ) → low ≤ q → q ≤ high → fall_of unit d q items ≡ steady + fall_of unit d q deciding)
    (below : (q : ℕ) → q < low → growth < fall_of unit d q items)
    (enough : fall_of unit d high items ≤ growth)
    (within : fall_of unit d r deciding ≤ growth - steady)
    (first : (q : ℕ) → q + 1 ≡ r → growth - steady < fall_of unit d q deciding) where
  pub near-within : (m : ℕ) → m ≡ min (max r low) high → fall_of unit d m items ≤ growth
  near-within m is =
      ⊎_elim
      (λ (inside : m < high). omega (arith, falls m (omega (arith, is)) (omega arith), fall_of-order unit d deciding r m (omega (arith, is)), within, few))
      (λ (top : high ≤ m). let same : high ≡ m = omega (arith, is) in subst (λ n. fall_of unit d n items ≤ growth) same enough)
      (cases_lt m high)

  pub near-first : (m : ℕ) → m ≡ min (max r low) high → (q : ℕ) → q + 1 ≡ m → growth < fall_of unit d q items
  near-first m is q next =
      ⊎_elim
      (λ (under : q < low). below q under)
      (λ (over : low ≤ q).
      omega (arith, falls q over (omega (arith, is)), first (r - 1) (omega (arith, is)), fall_of-order unit d deciding q (r - 1) (omega (arith, is)), few))
      (cases_lt q low)
