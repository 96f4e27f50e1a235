use Rattle.load_tree.proofs.Listed.{loads_fresh, well_fresh}
use Rattle.load_tree.proofs.small_loads.SmallLoads.new.Goals as goal

pub invariant_of-result : goal.invariant_of-result
invariant_of-result c = well_fresh c.shape_of-shape.result.height c.args.steps c.shape_of-shape.result.places c.in_ok-no_values.field-0.items c.in_ok-no_values.ensures c.shape_of-shape.ensures.places c.shape_of-shape.ensures.one_group

pub returns : goal.returns
returns c = loads_fresh c.shape_of-shape.result.height c.args.steps c.shape_of-shape.result.places c.in_ok-no_values.field-0.items c.in_ok-no_values.ensures
