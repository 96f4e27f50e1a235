-- The bound of a constant price is its part for each step and the surplus of all intervals.
use Rattle.std.proofs.Common.{◌≡◌, ℕ, zero, suc, ◌+◌, ◌-◌, ◌*◌, ◌/◌, ◌^◌, ◌<◌, ◌≤◌, ⊎_elim, refl, sym, ap, ◌∙◌, subst, arith, List, [], ◌∷◌, ◌++◌, length, sum, sum_by, replicate, take, drop, slice_range, All}
use Rattle.std.proofs.Math.Nat.{mul_assoc}
use Rattle.std.proofs.lemmas.Bool.{cases_lt}
use Rattle.std.proofs.lemmas.Nat.{mul-le}
use Rattle.std.proofs.lemmas.List.{drop-append-le, take-append-le, drop-replicate, take-replicate, length-replicate}
use Rattle.std.proofs.lemmas.List.Folds.{sum_by-replicate}
use Rattle.std.proofs.lemmas.List.Elements.{All-head, All-tail, All-weaker}
use Rattle.std.proofs.lemmas.List.Sums.{sum_by-cons, sum_by-append, sum_by-le}
use Rattle.cache_model.specs.declared.intervals.Interval.{Interval}
use Rattle.cache_model.specs.Intervals.{surplus}
use Rattle.interval_maker.specs.Timelines.{Timeline, IsInterval, IsTimeline}
use Rattle.constant_price.specs.Constants.{constant_prices, constant_bound, IsLeastConstant}
use Rattle.constant_price.specs.Surpluses.{charge, surplus_at, surplus_of, fall_of}
use Rattle.constant_price.proofs.Convex.{IsConvex, no_smaller_later, smaller_later}
use Rattle.constant_price.proofs.Falls.{fall_of-later, surplus_of-later, gain_within}

-- the prices of all steps, summed
pub sum-constant_prices : (price steps : ℕ) → sum (constant_prices price steps) ≡ (steps - 1) * price
sum-constant_prices price zero = omega arith
sum-constant_prices price (suc n) =
    let e : suc n - 1 ≡ n = omega arith in
    rw e (omega (arith, sum_by-append (λ (x : ℕ). x) (replicate n price) (0 ∷ []), sum_by-replicate (λ (x : ℕ). x) n price))

-- the prices of steps before the last
sum-slice_range : (price steps a b : ℕ) → a < b → b < steps → sum (slice_range (constant_prices price steps) a b) ≡ (b - a) * price
sum-slice_range price zero a b order within = absurd (omega arith)
sum-slice_range price (suc n) a b order within =
    let long : length (replicate n price) ≡ n = length-replicate n price in
    let rest : drop a (replicate n price ++ 0 ∷ []) ≡ replicate (n - a) price ++ 0 ∷ [] = drop-append-le a (replicate n price) (0 ∷ []) (omega arith) ∙ ap (λ xs. xs ++ 0 ∷ []) (drop-replicate a n price) in
    let short : length (replicate (n - a) price) ≡ n - a = length-replicate (n - a) price in
    let prefix : take (b - a) (replicate (n - a) price ++ 0 ∷ []) ≡ replicate (b - a) price = take-append-le (b - a) (replicate (n - a) price) (0 ∷ []) (omega arith) ∙ take-replicate (b - a) (n - a) price (omega arith) in
    ap (λ xs. sum (take (b - a) xs)) rest ∙ ap sum prefix ∙ sum_by-replicate (λ (x : ℕ). x) (b - a) price

-- an interval's surplus at these prices
surplus-constant_prices : (unit d price steps : ℕ) (i : Interval) → IsInterval steps i → surplus unit d (constant_prices price steps) i ≡ surplus_at unit d price i
surplus-constant_prices unit d price steps i h =
    let paid : i.size / unit * sum (slice_range (constant_prices price steps) i.start i.end) ≡ charge unit i * price =
    ap (λ n. i.size / unit * n) (sum-slice_range price steps i.start i.end h.order h.within) ∙ sym (mul_assoc (i.size / unit) (i.end - i.start) price) in
    ap (λ n. d * i.gain - n) paid

-- the surplus of all intervals at these prices
sum_by-surplus : (unit d price steps : ℕ) (items : List Interval) → All (IsInterval steps) items → sum_by (surplus unit d (constant_prices price steps)) items ≡ surplus_of unit d price items
sum_by-surplus unit d price steps [] each = refl
sum_by-surplus unit d price steps (i ∷ items) each =
    omega (arith, sum_by-cons (surplus unit d (constant_prices price steps)) i items, sum_by-cons (surplus_at unit d price) i items, surplus-constant_prices unit d price steps i (All-head (IsInterval steps) i items each), sum_by-surplus unit d price steps items (All-tail (IsInterval steps) i items each))

-- the bound of a constant price
pub constant_bound-is : (line : Timeline) (unit units d price : ℕ) → IsTimeline line → constant_bound line unit units d price ≡ units * ((line.steps - 1) * price) + surplus_of unit d price line.items
constant_bound-is line unit units d price h =
    omega (arith, ap (λ n. units * n) (sum-constant_prices price line.steps), sum_by-surplus unit d price line.steps line.items h.intervals)

-- the next price adds the units for each step but the last, and takes the fall away
pub constant_bound-convex : (line : Timeline) (unit units d : ℕ) → IsTimeline line
    → IsConvex (constant_bound line unit units d) (λ price. fall_of unit d price line.items) (units * (line.steps - 1))
constant_bound-convex line unit units d h = record {
  step = λ q.
      let grown : units * ((line.steps - 1) * (q + 1)) ≡ units * ((line.steps - 1) * q) + units * (line.steps - 1) = omega arith in
      omega (arith, grown, constant_bound-is line unit units d q h, constant_bound-is line unit units d (q + 1) h, surplus_of-later unit d q line.items);
  falls = λ q. fall_of-later unit d q line.items;
}

-- the price from which the fall is within the growth, and before which it passes it, is the least
pub least_from_falls : (line : Timeline) (unit units d price : ℕ) → IsTimeline line
    → fall_of unit d price line.items ≤ units * (line.steps - 1)
    → ((q : ℕ) → q + 1 ≡ price → units * (line.steps - 1) < fall_of unit d q line.items)
    → IsLeastConstant line unit units d price
least_from_falls line unit units d price h within above =
    let bound : ℕ → ℕ = constant_bound line unit units d in
    let fall : ℕ → ℕ = λ q. fall_of unit d q line.items in
    let growth : ℕ = units * (line.steps - 1) in
    let convex : IsConvex bound fall growth = constant_bound-convex line unit units d h in
    let smaller : (q : ℕ) → q < price → bound price < bound q = λ q before.
    let e : q + (price - 1 - q) ≡ price - 1 = omega arith in
    let there : growth < fall (q + (price - 1 - q)) = rw e (above (price - 1) (omega arith)) in
    let whole : q + (price - 1 - q) + 1 ≡ price = omega arith in
    subst (λ n. bound n < bound q) whole (smaller_later bound fall growth convex q (price - 1 - q) there) in
    record {
      no_smaller_bound = λ q.
          ⊎_elim
          (λ (before : q < price). omega (arith, smaller q before))
          (λ (after : price ≤ q).
          let e : price + (q - price) ≡ q = omega arith in
          subst (λ n. bound price ≤ bound n) e (no_smaller_later bound fall growth convex price (q - price) within))
          (cases_lt q price);
      no_smaller_price = λ q before same. omega (arith, smaller q before, same);
    }

-- no price gives more than the gains over the denominator
pub surplus_of-within : (unit d price most : ℕ) (items : List Interval) → All (λ i. d * i.gain ≤ most) items → surplus_of unit d price items ≤ length items * most
surplus_of-within unit d price most items each = sum_by-le (surplus_at unit d price) most items (All-weaker (λ i. d * i.gain ≤ most) (λ i. surplus_at unit d price i ≤ most) (λ i within. omega arith) items each)

-- at a price of which no constant has a smaller bound, the bound is at most the surplus of no price
pub least-within : (line : Timeline) (unit units d price : ℕ) → IsTimeline line → IsLeastConstant line unit units d price → constant_bound line unit units d price ≤ surplus_of unit d 0 line.items
least-within line unit units d price h least =
    omega (arith, least.no_smaller_bound 0, constant_bound-is line unit units d 0 h)

-- the surplus of a price is small
pub surplus-small : (line : Timeline) (unit d price : ℕ) → d ≤ 2 ^ 48 → IsTimeline line → surplus_of unit d price line.items ≤ 2 ^ 121
surplus-small line unit d price small h =
    let each : All (λ i. d * i.gain ≤ 2 ^ 96) line.items = All-weaker (IsInterval line.steps) (λ i. d * i.gain ≤ 2 ^ 96) (λ i is. gain_within line.steps d i small is) line.items h.intervals in
    let most : length line.items * 2 ^ 96 ≤ 2 ^ 25 * 2 ^ 96 = mul-le (length line.items) (2 ^ 96) (2 ^ 25) (2 ^ 96) (omega (arith, h.few_intervals, h.few_steps)) (omega arith) in
    omega (arith, surplus_of-within unit d price (2 ^ 96) line.items each, most)

-- the least bound is within the surplus of no price
pub constant_bound-within : (line : Timeline) (unit units d price : ℕ) → d ≤ 2 ^ 48 → IsTimeline line → IsLeastConstant line unit units d price → constant_bound line unit units d price ≤ 2 ^ 121
constant_bound-within line unit units d price small h least = omega (arith, least-within line unit units d price h least, surplus-small line unit d 0 small h)

-- a bound from its two parts, if the units times all prices are small
pub bound_found : (line : Timeline) (unit units d price : ℕ) (items : List Interval) (part surplus : ℕ) → d ≤ 2 ^ 48 → IsTimeline line → units * sum (constant_prices price line.steps) ≤ 2 ^ 121 → items ≡ line.items
    → part ≡ units * ((line.steps - 1) * price) → surplus ≡ surplus_of unit d price items
    → (part + surplus ≡ constant_bound line unit units d price) × (part + surplus ≤ 2 ^ 122)
bound_found line unit units d price items part surplus small h paid same part_is surplus_is =
    let surplus_of_line : surplus ≡ surplus_of unit d price line.items = surplus_is ∙ ap (surplus_of unit d price) same in
    let part_of_sum : part ≡ units * sum (constant_prices price line.steps) = part_is ∙ ap (λ n. units * n) (sym (sum-constant_prices price line.steps)) in (
      omega (arith, part_is, surplus_of_line, constant_bound-is line unit units d price h),
      omega (arith, part_of_sum, paid, surplus_of_line, surplus-small line unit d price small h),
    )

-- and so are the units times all prices
pub sum-within : (line : Timeline) (unit units d price : ℕ) → d ≤ 2 ^ 48 → IsTimeline line → IsLeastConstant line unit units d price → units * sum (constant_prices price line.steps) ≤ 2 ^ 121
sum-within line unit units d price small h least = omega (arith, constant_bound-within line unit units d price small h least)

-- the same of numbers and a list that are equal to these
pub least_found : (line : Timeline) (unit units d price growth : ℕ) (items : List Interval) → IsTimeline line → items ≡ line.items → growth ≡ units * (line.steps - 1)
    → fall_of unit d price items ≤ growth
    → ((q : ℕ) → q + 1 ≡ price → growth < fall_of unit d q items)
    → IsLeastConstant line unit units d price
least_found line unit units d price growth items h same grown within above =
    least_from_falls line unit units d price h
    (omega (arith, grown, ap (fall_of unit d price) same, within))
    (λ q next. omega (arith, grown, ap (fall_of unit d q) same, above q next))
