use Rattle.flow_solver.proofs.onward.is_tight.Goals as goal

pub ends-ends-requires : goal.ends-ends-requires
ends-ends-requires c = c.requires
