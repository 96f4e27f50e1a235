use Rattle.std.proofs.Common.{ℕ, length, ap}
use Rattle.flow_uniform.proofs.Started.{at_start}
use Rattle.flow_uniform.proofs.solver.Solver.new.Goals as goal

pub invariant_of-result : goal.invariant_of-result
invariant_of-result c =
    let instance = c.args.instance.now in
    let steps : ℕ = c.steps-steps.result in
    at_start instance c.args.cost steps (length c.arcs-arcs.result.now) c.in_ok-edges.edges c.in_ok-flows.flows.items c.in_ok-leaving.leaving.items c.in_ok-heap.heap c.in_ok-cuts.cuts.items c.in_ok-prices.prices.items
    c.requires.dear c.requires.uniform c.arcs-arcs.ensures.in_range c.in_ok-edges.ensures c.steps-steps.ensures (ap length c.arcs-arcs.ensures.arcs)
    (c.in_ok-flows.ensures.items_if_clones_equal (λ y h. h)) (c.in_ok-leaving.ensures.items_if_clones_equal (λ y h. h)) (c.in_ok-cuts.ensures.items_if_clones_equal (λ y h. h)) (c.in_ok-prices.ensures.items_if_clones_equal (λ y h. h))
    c.in_ok-heap.ensures
