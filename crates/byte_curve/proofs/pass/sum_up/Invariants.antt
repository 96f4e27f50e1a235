use Rattle.byte_curve.proofs.FoundLemmas.{IsSummed}
use Rattle.byte_curve.proofs.pass.sum_up.Given as goal

-- the hits before this place are summed
abbrev pub invariant-loop-k : goal.invariant-loop-k
invariant-loop-k l = IsSummed l.initial.found l.found l.k
