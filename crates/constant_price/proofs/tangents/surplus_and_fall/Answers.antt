use Rattle.std.proofs.Common.{◌≡◌, ℕ, ◌+◌, ◌-◌, ◌*◌, ◌^◌, ◌≤◌, min, arith}
use Rattle.std.proofs.lemmas.Nat.{mul-le}
use Rattle.constant_price.specs.Surpluses.{charge}
use Rattle.constant_price.proofs.Falls.{gain_within}
use Rattle.constant_price.proofs.tangents.surplus_and_fall.Goals as goal

-- what pays more than the gain has no surplus, here or later
none_left : (g c price : ℕ) → g ≤ c * price → 0 ≡ g - c * price
none_left g c price more = omega (arith, more)

none_falls : (g c price : ℕ) → g ≤ c * price → 0 ≡ (g - c * price) - (g - c * (price + 1))
none_falls g c price more = omega (arith, more)

-- the surplus loses what is paid at one more, or all of it
falls_by : (g c price : ℕ) → min (g - c * price) c ≡ (g - c * price) - (g - c * (price + 1))
falls_by g c price = omega arith

pub overflow_mul-charge : goal.overflow_mul-charge
overflow_mul-charge c =
    omega (arith, mul-le c.from.result c.from-2.result (2 ^ 64) (2 ^ 32) (omega (arith, c.from.ensures, c.weight_of.type_inv)) (omega (arith, c.from-2.ensures, c.requires.interval)))

-- the charge passes the gain over the denominator
past_gain : (c : goal.Then-charge-most) → c.args.denominator * c.args.interval.now.gain ≤ charge c.args.unit c.args.interval.now * c.args.price
past_gain c =
    let paid = c.from.result * c.from-2.result in
    let is : paid ≡ charge c.args.unit c.args.interval.now = cc in
    let most = mul-le c.from.result c.from-2.result (2 ^ 64) (2 ^ 25) (omega (arith, c.from.ensures, c.weight_of.type_inv)) (omega (arith, c.from-2.ensures, c.requires.interval)) in
    let more = c.requires.more paid c.if-charge-most.true (omega (arith, most)) in
    rw (← is) (omega (arith, more, gain_within (2 ^ 25) c.args.denominator c.args.interval.now c.requires.denominator c.requires.interval))

pub returns-then-charge-most-clause-surplus : goal.returns-then-charge-most-clause-surplus
returns-then-charge-most-clause-surplus c = none_left _ _ _ (past_gain c)

pub returns-then-charge-most-clause-fall : goal.returns-then-charge-most-clause-fall
returns-then-charge-most-clause-fall c = none_falls _ _ _ (past_gain c)

pub overflow_mul-gain : goal.overflow_mul-gain
overflow_mul-gain c =
    omega (arith, mul-le c.from-3.result c.from-4.result (2 ^ 48) (2 ^ 64) (omega (arith, c.from-3.ensures, c.requires.denominator)) (omega (arith, c.from-4.ensures, c.requires.interval.gain.1)))

pub overflow_mul-charge-2 : goal.overflow_mul-charge-2
overflow_mul-charge-2 c =
    omega (arith, mul-le (c.from.result * c.from-2.result) c.args.price c.args.most c.args.price (c.if-charge-most.false) (omega arith), c.requires.most)

pub returns-clause-surplus : goal.returns-clause-surplus
returns-clause-surplus c = cc

pub returns-clause-fall : goal.returns-clause-fall
returns-clause-fall c =
    let left = falls_by (c.args.denominator * c.args.interval.now.gain) (charge c.args.unit c.args.interval.now) c.args.price in
    cc
