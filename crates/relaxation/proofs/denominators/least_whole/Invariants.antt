use Rattle.relaxation.proofs.Whole.{IsSoFar}
use Rattle.relaxation.proofs.denominators.least_whole.Given as goal

abbrev pub invariant-loop-at : goal.invariant-loop-at
invariant-loop-at l = IsSoFar l.intervals l.unit l.at l.multiple
