use Rattle.std.proofs.Common.{ℕ, ◌-◌, ◌*◌, ◌<◌, ◌∙◌, sym, ap, length, arith}
use Rattle.flow_model.specs.Instances.{Instance, no_arc}
use Rattle.flow_model.specs.Networks.{tail}
use Rattle.flow_parts.specs.OuterEdges.{tail_of}
use Rattle.flow_parts.proofs.EdgeLists.{edge_of-arc}
use Rattle.flow_solver.proofs.onward.arc_on.Goals as goal

pub first-left-requires : goal.first-left-requires
first-left-requires c = omega (arith, c.requires.edges.each_node, c.requires.node)

pub loop-left-init : goal.loop-left-init
loop-left-init c =
    let lists = c.requires.edges in
    let first = c.first-left.ensures in
    record {
      within = omega (arith, first, lists.first_low c.args.node);
      here = λ some. ap (λ k. tail_of c.args.network.now.instance.arcs (k - 1)) first ∙ lists.first_here c.args.node c.requires.node (omega (arith, some, first));
    }

pub overflow_sub-number : goal.overflow_sub-number
overflow_sub-number c = omega (arith, c.loop-left-test.true)

pub ends-requires : goal.ends-requires
ends-requires c = omega (arith, c.if-number-arcs.true, ap length c.arcs.ensures.arcs, ap (λ (i : Instance). length i.arcs) c.instance.ensures.instance)

pub has-requires : goal.has-requires
has-requires c = omega (arith, c.ends.ensures.within.1, c.requires.marks)

pub is_tight-requires : goal.is_tight-requires
is_tight-requires c = omega (arith, c.if-number-arcs.true, ap length c.arcs.ensures.arcs, ap (λ (i : Instance). length i.arcs) c.instance.ensures.instance)

pub returns-then-is_tight : goal.returns-then-is_tight
returns-then-is_tight c =
    let arcs = c.args.network.now.instance.arcs in
    let number : ℕ = c.loop-left.left - 1 in
    let low : number < length arcs = omega (arith, c.if-number-arcs.true, ap length c.arcs.ensures.arcs, ap (λ (i : Instance). length i.arcs) c.instance.ensures.instance) in
    let arc = c.requires.fits.in_range.arcs_fit number no_arc low in
    record {
      tight = c.is_tight.ensures c.if-is_tight.true;
      from = sym (ap (tail arcs) (edge_of-arc (length arcs) number low)) ∙ c.loop-left.invariant.here c.loop-left-test.true;
      later = arc.order;
      within = arc.within;
    }

pub after-left-requires : goal.after-left-requires
after-left-requires c = omega (arith, c.requires.edges.each_edge, c.loop-left.invariant.within, c.loop-left-test.true)

pub loop-left-smaller : goal.loop-left-smaller
loop-left-smaller c = omega (arith, c.after-left.ensures, c.requires.edges.next_low (c.loop-left.left - 1) (omega (arith, c.loop-left.invariant.within, c.loop-left-test.true)), c.loop-left-test.true)

pub loop-left-preserved : goal.loop-left-preserved
loop-left-preserved c =
    let arcs = c.args.network.now.instance.arcs in
    let lists = c.requires.edges in
    let number : ℕ = c.loop-left.left - 1 in
    let within : number < 2 * length arcs = omega (arith, c.loop-left.invariant.within, c.loop-left-test.true) in
    let next = c.after-left.ensures in
    record {
      within = omega (arith, next, lists.next_low number within);
      here = λ some. ap (λ k. tail_of arcs (k - 1)) next ∙ lists.next_here number within (omega (arith, next, some)) ∙ c.loop-left.invariant.here c.loop-left-test.true;
    }
