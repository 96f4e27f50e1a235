use Rattle.std.proofs.Common.{ℕ, ◌-◌, ◌<◌, arith, get_or-set_same, get_or-set_other, below_more, ◌≢◌}
use Rattle.flow_model.specs.declared.edges.Edge.TheVariants.{Inner}
use Rattle.flow_solver.proofs.solver.write_prices.Goals as goal

pub overflow_sub-price : goal.overflow_sub-price
overflow_sub-price c =
    let t = c.loop-step.step in
    let some = c.requires.ready.fits.in_range.some_units in
    let in_steps : t < c.args.network.now.instance.steps = omega (arith, c.loop-step.auto.prices, c.requires.each_step, c.loop-step-test.true) in
    let falls = c.requires.ready.valid (Inner t) in_steps some in
    omega (arith, falls, c.potential.ensures.potential, c.potential-in-loop-step.ensures.potential)

pub loop-step-preserved : goal.loop-step-preserved
loop-step-preserved c =
    let t = c.loop-step.step in
    let some = c.requires.ready.fits.in_range.some_units in
    let in_steps : t < c.args.network.now.instance.steps = omega (arith, c.loop-step.auto.prices, c.requires.each_step, c.loop-step-test.true) in
    let falls = c.requires.ready.valid (Inner t) in_steps some in
    let price : ℕ = c.potential.result - c.potential-in-loop-step.result in
    below_more _ _
    (λ k h. let other : k ≢ t = omega arith in omega (arith, get_or-set_other c.loop-step.prices t k price 0 other, c.loop-step.invariant k h))
    (omega (arith, get_or-set_same c.loop-step.prices t price 0 (omega (arith, c.loop-step.auto.prices, c.loop-step-test.true)), falls, c.potential.ensures.potential, c.potential-in-loop-step.ensures.potential))
