use Rattle.std.proofs.Common.{◌≡◌, map, replicate}
use Rattle.window_arcs.proofs.places.no_sums.Given as goal

-- each node so far has the sum 0
abbrev pub invariant-loop-node : goal.invariant-loop-node
invariant-loop-node g l = map g.N.SumNumber.value l.sums.items ≡ replicate l.node 0
