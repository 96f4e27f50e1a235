use Rattle.bound_run.proofs.relaxed.upper_of.Goals as goal

pub returns-clause-bound : goal.returns-clause-bound
returns-clause-bound c = rw c.in_ok-sums.ensures.made at c.bound_of.ensures.value
