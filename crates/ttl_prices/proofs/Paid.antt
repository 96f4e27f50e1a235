-- What the units pay at one price, and the clock.
use Rattle.std.proofs.Common.{◌≡◌, ℕ, ◌+◌, ◌-◌, ◌*◌, ◌^◌, ◌<◌, ◌≤◌, List, length, arith, sym, fold, max, get_or, slice_index_or, sum, take}
use Rattle.std.proofs.Math.Nat.{mul-le-mul_left}
use Rattle.std.proofs.lemmas.List.Sums.{fold_more, sum_by_more}
use Rattle.freshness.specs.Stale.{clock}
use Rattle.constant_price.specs.Constants.{constant_prices}
use Rattle.constant_price.proofs.Bounds.{sum-constant_prices}
use Rattle.constant_price.proofs.Prices.{length-constant_prices}

-- a lower price sums to no more
pub sum-lower : (price start steps : ℕ) → price ≤ start → sum (constant_prices price steps) ≤ sum (constant_prices start steps)
sum-lower price start steps lower =
    omega (arith, sum-constant_prices price steps, sum-constant_prices start steps, mul-le-mul_left (steps - 1) lower)

-- and the units pay no more
pub paid-lower : (units price start steps : ℕ) → price ≤ start → units * sum (constant_prices start steps) ≤ 2 ^ 121
    → units * sum (constant_prices price steps) ≤ 2 ^ 121
paid-lower units price start steps lower paid = omega (arith, paid, mul-le-mul_left units (sum-lower price start steps lower))

-- the prices of one step more
pub sum-more : (price steps t : ℕ) → t < steps
    → sum (take (t + 1) (constant_prices price steps)) ≡ sum (take t (constant_prices price steps)) + slice_index_or (constant_prices price steps) t 0
sum-more price steps t within =
    sum_by_more (λ x. x) (constant_prices price steps) t 0 (omega (arith, within, length-constant_prices price steps))

-- the clock at a request is the greater of its time and the clock before
pub clock-more : (times : List ℕ) (t : ℕ) → t < length times → max (fold max 0 (take t times)) (get_or times t 0) ≡ clock times t
clock-more times t within = sym (fold_more max 0 times t 0 within)
