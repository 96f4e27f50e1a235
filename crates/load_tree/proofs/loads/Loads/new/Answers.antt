use Rattle.std.proofs.Common.{◌∙◌, ap, replicate, arith}
use Rattle.load_tree.specs.Trees.{loads_of, no_node, nodes_of}
use Rattle.load_tree.proofs.Fresh.{well_of, well_fresh, loads_of-fresh}
use Rattle.load_tree.proofs.loads.Loads.new.Goals as goal

pub invariant_of-result : goal.invariant_of-result
invariant_of-result c =
    let height = c.shape_of-shape.result.height in
    well_of height (replicate (nodes_of height) no_node) c.in_ok-no_nodes.field-0.items (replicate c.args.steps 0) c.in_ok-no_loads.field-0.items (c.in_ok-no_nodes.ensures ∙ ap (λ n. replicate n no_node) c.shape_of-shape.ensures.nodes) c.in_ok-no_loads.ensures
    (well_fresh height c.args.steps (omega arith))

pub returns : goal.returns
returns c =
    let height = c.shape_of-shape.result.height in
    ap (λ ns. loads_of height ns c.in_ok-no_loads.field-0.items) (c.in_ok-no_nodes.ensures ∙ ap (λ n. replicate n no_node) c.shape_of-shape.ensures.nodes)
    ∙ ap (loads_of height (replicate (nodes_of height) no_node)) c.in_ok-no_loads.ensures
    ∙ loads_of-fresh height c.args.steps
