use Rattle.std.proofs.Common.{◌≤◌, ◌<◌, ◌≢◌, ◌-◌, ◌*◌, map}
use Rattle.sum_tree.specs.Sums.{sum_at}
use Rattle.window_arcs.specs.Places.{IsLeft}
use Rattle.window_arcs.proofs.places.first_down.Given as goal

-- as much is left on this level, of which the node has a sum
abbrev pub invariant-down : goal.invariant-down
invariant-down g l = record {
  some : 1 ≤ l.start;
  within : l.start ≤ l.leaves;
  left : IsLeft l.leaves l.from (map g.N.SumNumber.value l.sums) l.start l.node;
  low : l.node < 2 * l.start;
  found : sum_at (map g.N.SumNumber.value l.sums) l.node ≢ 0;
}

abbrev pub decreases-down : goal.decreases-down
decreases-down g l = l.leaves - l.start
