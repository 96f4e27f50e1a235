use Rattle.stack_curve.proofs.CountLemmas.{IsSummed}
use Rattle.stack_curve.proofs.pass.sum_up.Given as goal

-- the counts before this one are summed
abbrev pub invariant-loop-k : goal.invariant-loop-k
invariant-loop-k l = IsSummed l.initial.counts l.counts l.k
