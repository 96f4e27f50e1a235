use Rattle.std.proofs.Common.{ℕ, ◌^◌, ◌∙◌, arith}
use Rattle.flow_model.specs.Instances.{no_arc, covers}
use Rattle.flow_uniform.specs.Cuts.{ends_at}
use Rattle.flow_uniform.proofs.Parts.{flow_where-none, flow_where-le}
use Rattle.flow_uniform.proofs.Covering.{load_next}
use Rattle.flow_uniform.proofs.CutArcs.{uncut}
use Rattle.flow_uniform.proofs.Entered.{entered}
use Rattle.flow_uniform.proofs.stepping.sweep.Goals as goal

pub loop-step-init : goal.loop-step-init
loop-step-init c =
    let instance = c.args.instance.now in
    record {
      held = c.requires.held;
      cuts = uncut instance c.args.flows.now c.args.cuts.now c.requires.held.each_arc c.requires.each_step c.requires.unused c.requires.uncut;
      load = omega (
        arith,
        flow_where-none (covers 0) instance.arcs c.args.flows.now (λ i h. c.requires.unused i),
        flow_where-none (ends_at 0) instance.arcs c.args.flows.now (λ i h. c.requires.unused i),
      );
    }

pub overflow_add-load : goal.overflow_add-load
overflow_add-load c =
    let instance = c.args.instance.now in
    let t : ℕ = c.loop-step.step in
    let inv = c.loop-step.invariant in
    omega (
      arith,
      inv.load,
      inv.held.leaving t (omega (arith, c.loop-step-test.true, c.steps-step-end.ensures)),
      c.enter-load.ensures.load,
      flow_where-le (covers t) instance.arcs c.enter-load.new.flows (2 ^ 48) c.enter-load.ensures.held.low,
      c.requires.fits.few_arcs,
    )

pub evict-load-requires-clause-cuts : goal.evict-load-requires-clause-cuts
evict-load-requires-clause-cuts c = entered c.args.instance.now c.loop-step.flows c.enter-load.new.flows c.loop-step.cuts c.loop-step.step c.loop-step.invariant.cuts c.enter-load.ensures.enter

pub loop-step-preserved : goal.loop-step-preserved
loop-step-preserved c =
    let instance = c.args.instance.now in
    let t : ℕ = c.loop-step.step in
    let cuts = c.evict-load.ensures.cuts in
    record {
      held = c.evict-load.ensures.held;
      cuts = cuts;
      load = c.evict-load.ensures.load ∙ load_next instance.arcs c.evict-load.new.flows t (λ i h. (c.requires.fits.arcs_fit i no_arc h).order) (λ i h e. cuts.unentered i h (omega (arith, e)));
    }
