use Rattle.std.proofs.Common.{ap, refl, arith}
use Rattle.flow_model.specs.Instances.{Instance}
use Rattle.flow_network.specs.States.{State}
use Rattle.flow_solver.proofs.solver.set_slope.Goals as goal

pub overflow_add-node-end : goal.overflow_add-node-end
overflow_add-node-end c = omega (arith, c.steps-steps.ensures, ap (λ (i : Instance). i.steps) c.instance.ensures.instance, c.requires.fits.in_range.few_steps)

pub loop-node-init : goal.loop-node-init
loop-node-init c = record { rest = refl; fits = c.requires.fits; slope = λ k low. absurd (omega arith) }

pub overflow_sub-steps : goal.overflow_sub-steps
overflow_sub-steps c = omega (arith, c.loop-node-test.true)

pub overflow_mul-steps : goal.overflow_mul-steps
overflow_mul-steps c = omega (arith, c.steps-steps.ensures, ap (λ (i : Instance). i.steps) c.instance.ensures.instance, c.requires.fits.in_range.few_steps)

pub set_potential-requires-clause-node : goal.set_potential-requires-clause-node
set_potential-requires-clause-node c = omega (arith, c.loop-node-test.true, c.steps-steps.ensures, ap (λ (i : Instance). i.steps) c.instance.ensures.instance, ap (λ (x : State). x.instance.steps) c.loop-node.invariant.rest)

pub set_potential-requires-clause-value : goal.set_potential-requires-clause-value
set_potential-requires-clause-value c = omega (arith, c.steps-steps.ensures, ap (λ (i : Instance). i.steps) c.instance.ensures.instance, c.requires.fits.in_range.few_steps)

pub returns-clause-same : goal.returns-clause-same
returns-clause-same c = c.loop-node.invariant.rest
