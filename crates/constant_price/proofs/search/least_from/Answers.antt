use Rattle.std.proofs.Common.{◌≡◌, ◌-◌, ◌*◌, arith}
use Rattle.constant_price.specs.Constants.{IsLeastConstant}
use Rattle.constant_price.proofs.Bounds.{least_found, sum-within}
use Rattle.constant_price.proofs.search.least_from.Goals as goal

-- the price that the search finds
found : (c : goal.In_ok-price) → IsLeastConstant c.args.intervals.now c.args.unit c.args.units c.args.denominator c.in_ok-price.price
found c =
    let grown : c.from.result * c.from-2.result ≡ c.args.units * (c.args.intervals.now.steps - 1) = cc in
    least_found c.args.intervals.now c.args.unit c.args.units c.args.denominator c.in_ok-price.price (c.from.result * c.from-2.result) c.as_slice-items.result.now c.as_slice-items.ensures.timeline c.as_slice-items.ensures.items grown c.in_ok-price.ensures.within c.in_ok-price.ensures.first

pub returns-clause-least : goal.returns-clause-least
returns-clause-least c = found c

pub returns-clause-sum : goal.returns-clause-sum
returns-clause-sum c =
    sum-within c.args.intervals.now c.args.unit c.args.units c.args.denominator c.in_ok-price.price (omega arith) c.as_slice-items.ensures.timeline (found c)
