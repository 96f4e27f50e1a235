use Rattle.std.proofs.Common.{◌≡◌, ℕ, ◌+◌, ◌-◌, ◌<◌, ◌≤◌, ◌^◌, ◌∙◌, sym, ap, subst, arith, get_or, set, List, length, get_or-set_same}
use Rattle.flow_model.specs.Instances.{no_arc, arc_at, covers, load_at}
use Rattle.flow_parts.specs.OuterEdges.{tail_of}
use Rattle.flow_uniform.specs.Cuts.{Spans}
use Rattle.flow_uniform.proofs.Parts.{flow_where-le}
use Rattle.flow_uniform.proofs.Covering.{load_falls}
use Rattle.flow_uniform.proofs.Holding.{EntersFrom, tail_of-arc, enters_none, enters_more}
use Rattle.flow_uniform.proofs.entering.enter.Goals as goal

pub loop-left-init : goal.loop-left-init
loop-left-init c =
    let instance = c.args.instance.now in
    let listed = c.requires.edges in
    let first = c.first-left.ensures in
    let low : c.args.step ≤ instance.steps = omega (arith, c.requires.step) in
    record {
      held = c.requires.held;
      within = omega (arith, first, listed.first_low c.args.step);
      here = λ some. ap (λ k. tail_of instance.arcs (k - 1)) first ∙ listed.first_here c.args.step low (omega (arith, first, some));
      enter = subst (λ k. EntersFrom instance.arcs c.args.step k c.args.flows.now c.args.flows.now) (sym first) (enters_none instance c.args.edges.now c.args.step c.args.flows.now listed low);
      load = omega arith;
    }

pub enter_one-requires-clause-number : goal.enter_one-requires-clause-number
enter_one-requires-clause-number c = omega (arith, c.loop-left.invariant.within, c.loop-left-test.true)

pub enter_one-requires-clause-fresh : goal.enter_one-requires-clause-fresh
enter_one-requires-clause-fresh c =
    let arcs = c.args.instance.now.arcs in
    let inv = c.loop-left.invariant in
    let number : ℕ = c.loop-left.left - 1 in
    let some : 0 < c.loop-left.left = c.loop-left-test.true in
    let is_arc : number < length arcs = omega (arith, inv.within, some) in
    let start : (arc_at arcs number).start ≡ c.args.step = sym (tail_of-arc arcs number is_arc) ∙ inv.here some in
    inv.enter.waiting number is_arc (omega (arith, some)) ∙ c.requires.fresh number is_arc start

pub overflow_add-more : goal.overflow_add-more
overflow_add-more c =
    let instance = c.args.instance.now in
    let inv = c.loop-left.invariant in
    let number : ℕ = c.loop-left.left - 1 in
    let is_arc : number < length instance.arcs = omega (arith, inv.within, c.loop-left-test.true) in
    let own : get_or (set c.loop-left.flows number c.enter_one.result) number 0 ≡ c.enter_one.result = get_or-set_same c.loop-left.flows number c.enter_one.result 0 (omega (arith, inv.held.each_arc, is_arc)) in
    let same : get_or c.enter_one.new.flows number 0 ≡ c.enter_one.result = ap (λ xs. get_or xs number 0) c.enter_one.ensures.set ∙ own in
    omega (
      arith,
      inv.load,
      flow_where-le (covers c.args.step) instance.arcs c.loop-left.flows (2 ^ 48) inv.held.low,
      c.requires.fits.few_arcs,
      same,
      c.enter_one.ensures.held.low number is_arc,
    )

pub loop-left-preserved : goal.loop-left-preserved
loop-left-preserved c =
    let instance = c.args.instance.now in
    let arcs = instance.arcs in
    let listed = c.requires.edges in
    let inv = c.loop-left.invariant in
    let t : ℕ = c.args.step in
    let number : ℕ = c.loop-left.left - 1 in
    let some : 0 < c.loop-left.left = c.loop-left-test.true in
    let here : tail_of arcs number ≡ t = inv.here some in
    let next = c.after-left.ensures in
    let is_arc : number < length arcs = omega (arith, inv.within, some) in
    let one : number + 1 ≡ c.loop-left.left = omega (arith, some) in
    let before : EntersFrom arcs t (number + 1) c.args.flows.now c.loop-left.flows = subst (λ k. EntersFrom arcs t k c.args.flows.now c.loop-left.flows) (sym one) inv.enter in
    let new : List ℕ = c.enter_one.new.flows in
    let start : (arc_at arcs number).start ≡ t = sym (tail_of-arc arcs number is_arc) ∙ here in
    let spans : Spans (arc_at arcs number) t = record { started = omega (arith, start); open_still = omega (arith, start, (c.requires.fits.arcs_fit number no_arc is_arc).order) } in
    let fresh : get_or c.loop-left.flows number 0 ≡ 0 = inv.enter.waiting number is_arc (omega (arith, some)) ∙ c.requires.fresh number is_arc start in
    let load : load_at arcs new t ≡ load_at arcs c.loop-left.flows t + c.enter_one.result =
    ap (λ xs. load_at arcs xs t) c.enter_one.ensures.set ∙ omega (arith, load_falls arcs c.loop-left.flows t number c.enter_one.result inv.held.each_arc is_arc spans, fresh) in
    record {
      held = c.enter_one.ensures.held;
      within = omega (arith, next, listed.next_low number is_arc, is_arc);
      here = λ more. ap (λ k. tail_of arcs (k - 1)) next ∙ listed.next_here number is_arc (omega (arith, next, more)) ∙ here;
      enter = subst (λ k. EntersFrom arcs t k c.args.flows.now new) (sym next)
          (enters_more instance c.args.edges.now t number c.args.flows.now c.loop-left.flows new listed is_arc here before c.enter_one.ensures.enters);
      load = omega (arith, load, inv.load);
    }
