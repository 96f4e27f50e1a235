use Rattle.std.proofs.Common.{map}
use Rattle.sum_tree.proofs.SumLemmas.{IsCounted}
use Rattle.sum_tree.proofs.tree.sum_between.Given as goal

abbrev pub invariant-up : goal.invariant-up
invariant-up g l = IsCounted l.places l.from l.to (map g.N.SumNumber.value l.sums) l.low l.high (g.N.SumNumber.value l.sum)

abbrev pub decreases-up : goal.decreases-up
decreases-up g l = l.high
