use Rattle.std.proofs.Common.{◌≡◌, map, drop}
use Rattle.sum_tree.proofs.SetLemmas.{IsMended}
use Rattle.sum_tree.proofs.tree.set_leaf.Given as goal

abbrev pub invariant-up : goal.invariant-up
invariant-up g l = record { mended : IsMended g.N.SumNumber.greatest l.places l.node (map g.N.SumNumber.value l.sums); same : drop l.places l.sums ≡ drop l.places l.initial.sums }

abbrev pub decreases-up : goal.decreases-up
decreases-up g l = l.node
