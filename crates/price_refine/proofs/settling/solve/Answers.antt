use Rattle.std.proofs.Common.{arith, ◌≤◌}
use Rattle.flow_model.proofs.Equal.{solution_is_best}
use Rattle.price_refine.proofs.settling.solve.Goals as goal

pub returns-clause-least : goal.returns-clause-least
returns-clause-least c =
    let whole : c.args.instance.now.steps ≤ c.steps.result = omega (arith, c.steps.ensures) in
    rw c.into_parts.ensures.prices ((solution_is_best c.args.instance.now c.in_ok-found.found.prices c.in_ok-found.found.flows (c.in_ok-found.ensures.one_window whole)).0)
