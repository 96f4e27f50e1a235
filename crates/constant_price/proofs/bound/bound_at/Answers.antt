use Rattle.std.proofs.Common.{◌≡◌, ◌≤◌, ◌^◌, ◌*◌, ◌+◌, ◌-◌, arith}
use Rattle.constant_price.specs.Constants.{constant_bound}
use Rattle.constant_price.proofs.Bounds.{bound_found}
use Rattle.constant_price.proofs.bound.bound_at.Goals as goal

-- the two parts, and what they come to
found : (c : goal.After-struct_known-1)
    → (c.from.result * (c.from-steps.result * c.args.price) + c.tangent_at-tangent.result.surplus ≡ constant_bound c.args.intervals.now c.args.unit c.args.units c.args.denominator c.args.price)
    × (c.from.result * (c.from-steps.result * c.args.price) + c.tangent_at-tangent.result.surplus ≤ 2 ^ 122)
found c =
    let part : c.from.result * (c.from-steps.result * c.args.price) ≡ c.args.units * ((c.args.intervals.now.steps - 1) * c.args.price) = cc in
    bound_found c.args.intervals.now c.args.unit c.args.units c.args.denominator c.args.price c.as_slice.result.now (c.from.result * (c.from-steps.result * c.args.price)) c.tangent_at-tangent.result.surplus c.requires.denominator c.as_slice.ensures.timeline c.requires.paid c.as_slice.ensures.items part c.tangent_at-tangent.ensures.surplus

pub overflow_add-result : goal.overflow_add-result
overflow_add-result c = omega (arith, (found c).1)

pub returns-clause-bound : goal.returns-clause-bound
returns-clause-bound c = (found c).0

pub returns-clause-small : goal.returns-clause-small
returns-clause-small c = omega (arith, (found c).1)
