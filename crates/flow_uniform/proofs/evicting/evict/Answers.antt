use Rattle.std.proofs.Common.{ℕ, ◌-◌, ◌<◌, ◌≤◌, refl, arith, get_or, List}
use Rattle.flow_model.specs.Instances.{no_arc}
use Rattle.flow_uniform.specs.Holdings.{Holding}
use Rattle.flow_uniform.proofs.Covering.{load_falls}
use Rattle.flow_uniform.proofs.CutArcs.{IsFarthest, cut_more}
use Rattle.flow_uniform.proofs.Holding.{farthest, some_ranked, taken_held}
use Rattle.flow_uniform.proofs.evicting.evict.Goals as goal

-- some arc is in the heap while the load is over the units
pub returns-in_default-clause-cuts : goal.returns-in_default-clause-cuts
returns-in_default-clause-cuts c =
    let inv = c.loop-load.invariant in
    let held : Holding = record { flows = c.loop-load.flows; leaving = c.loop-load.leaving; ranks = c.loop-load.heap } in
    absurd (some_ranked c.args.instance.now held c.args.step inv.held (omega (arith, inv.load, c.loop-load-test.true)) (c.in_default.ensures.none.0 refl))

pub lower-requires-clause-held : goal.lower-requires-clause-held
lower-requires-clause-held c = taken_held c.args.instance.now c.loop-load.flows c.loop-load.leaving c.loop-load.heap c.take_least.new.self c.in-Some.first.0 c.loop-load.invariant.held c.in-Some.ensures.taken

pub loop-load-smaller : goal.loop-load-smaller
loop-load-smaller c =
    let inv = c.loop-load.invariant in
    let held : Holding = record { flows = c.loop-load.flows; leaving = c.loop-load.leaving; ranks = c.loop-load.heap } in
    let far : IsFarthest c.args.instance.now.arcs c.loop-load.flows c.args.step c.in-Some.first.0 =
    farthest c.args.instance.now c.loop-load.cuts held c.args.step c.in-Some.first.0 c.in-Some.first.1 c.arcs.ensures.in_range inv.held inv.cuts (omega (arith, inv.load, c.loop-load-test.true)) c.in-Some.ensures.first in
    omega (arith, c.min-amount.ensures, far.some, c.loop-load-test.true)

pub loop-load-preserved : goal.loop-load-preserved
loop-load-preserved c =
    let instance = c.args.instance.now in
    let arcs = instance.arcs in
    let inv = c.loop-load.invariant in
    let t : ℕ = c.args.step in
    let number : ℕ = c.in-Some.first.0 in
    let flows : List ℕ = c.loop-load.flows in
    let held : Holding = record { flows = flows; leaving = c.loop-load.leaving; ranks = c.loop-load.heap } in
    let fits = c.arcs.ensures.in_range in
    let far : IsFarthest arcs flows t number = farthest instance c.loop-load.cuts held t number c.in-Some.first.1 fits inv.held inv.cuts (omega (arith, inv.load, c.loop-load-test.true)) c.in-Some.ensures.first in
    let amount : ℕ = c.min-amount.result in
    let some : 0 < amount = omega (arith, c.min-amount.ensures, far.some, c.loop-load-test.true) in
    let few : amount ≤ get_or flows number 0 = omega (arith, c.min-amount.ensures) in
    let small : amount ≤ c.loop-load.load - c.units-units.result = omega (arith, c.min-amount.ensures) in
    rw (c.arcs.ensures.arcs, c.lower.ensures.flows) (record {
      held = rw c.lower.ensures.flows at c.lower.ensures.held;
      cuts = cut_more instance flows c.loop-load.cuts t number amount inv.cuts c.requires.step (fits.arcs_fit number no_arc far.within).within far some few;
      load = omega (arith, inv.load, load_falls arcs flows t number (get_or flows number 0 - amount) inv.held.each_arc far.within far.spans, few);
      full = λ cut. omega (arith, small, c.loop-load-test.true, c.units-units.ensures);
    })
