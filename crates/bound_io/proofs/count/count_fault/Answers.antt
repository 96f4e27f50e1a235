use Rattle.bound_io.proofs.count.count_fault.Goals as goal

pub returns-in-None-clause-count : goal.returns-in-None-clause-count
returns-in-None-clause-count c = c.saturating_add.ensures
