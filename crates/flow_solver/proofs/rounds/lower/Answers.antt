use Rattle.std.proofs.Common.{◌≡◌, ◌∙◌, refl, ap, arith, slice_index}
use Rattle.flow_model.specs.Instances.{Instance}
use Rattle.flow_network.specs.States.{State}
use Rattle.flow_solver.proofs.rounds.lower.Goals as goal

pub distance-limit-requires : goal.distance-limit-requires
distance-limit-requires c = omega (arith, c.steps-last.ensures, ap (λ (i : Instance). i.steps) c.instance.ensures.instance, c.requires.each_distance)

pub returns-then-limit-eq0-clause-lowered : goal.returns-then-limit-eq0-clause-lowered
returns-then-limit-eq0-clause-lowered c =
    let d = c.args.search.now.distances in
    let last : c.steps-last.result ≡ c.args.network.now.instance.steps = c.steps-last.ensures ∙ ap (λ (i : Instance). i.steps) c.instance.ensures.instance in
    λ node h. omega (arith, c.if-limit-eq0.true, c.distance-limit.ensures, ap (slice_index d) last)

pub returns-then-limit-eq0-clause-same : goal.returns-then-limit-eq0-clause-same
returns-then-limit-eq0-clause-same c = refl

pub returns-then-limit-eq0-clause-fits : goal.returns-then-limit-eq0-clause-fits
returns-then-limit-eq0-clause-fits c = c.requires.fits

pub overflow_add-node-end : goal.overflow_add-node-end
overflow_add-node-end c = omega (arith, c.steps-last.ensures, ap (λ (i : Instance). i.steps) c.instance.ensures.instance, c.requires.fits.in_range.few_steps)

pub loop-node-init : goal.loop-node-init
loop-node-init c = record { rest = refl; fits = c.requires.fits; done = λ k h. absurd (omega arith); later = λ k h. refl }

pub distance-requires : goal.distance-requires
distance-requires c = omega (arith, c.loop-node-test.true, c.steps-last.ensures, ap (λ (i : Instance). i.steps) c.instance.ensures.instance, c.requires.each_distance)

pub potential-potential-requires : goal.potential-potential-requires
potential-potential-requires c = omega (arith, c.loop-node-test.true, c.steps-last.ensures, ap (λ (i : Instance). i.steps) c.instance.ensures.instance, ap (λ (x : State). x.instance.steps) c.loop-node.invariant.rest)

pub set_potential-requires-clause-node : goal.set_potential-requires-clause-node
set_potential-requires-clause-node c = omega (arith, c.loop-node-test.true, c.steps-last.ensures, ap (λ (i : Instance). i.steps) c.instance.ensures.instance, ap (λ (x : State). x.instance.steps) c.loop-node.invariant.rest)

pub set_potential-requires-clause-value : goal.set_potential-requires-clause-value
set_potential-requires-clause-value c = omega (arith, c.potential-potential.ensures.small)

pub returns-clause-lowered : goal.returns-clause-lowered
returns-clause-lowered c = λ node h. c.loop-node.invariant.done node (omega (arith, h, c.loop-node-test.false, c.steps-last.ensures, ap (λ (i : Instance). i.steps) c.instance.ensures.instance))

pub returns-clause-same : goal.returns-clause-same
returns-clause-same c = c.loop-node.invariant.rest

pub returns-clause-fits : goal.returns-clause-fits
returns-clause-fits c = c.loop-node.invariant.fits
