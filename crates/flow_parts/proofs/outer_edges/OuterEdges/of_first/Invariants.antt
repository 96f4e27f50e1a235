use Rattle.std.proofs.Common.{◌≡◌, length}
use Rattle.flow_parts.specs.OuterEdges.{AreListed}
use Rattle.flow_parts.proofs.outer_edges.OuterEdges.of_first.Given as goal

abbrev pub invariant-loop-number : goal.invariant-loop-number
invariant-loop-number l = record { listed : AreListed l.instance l.edges l.number; room : length l.edges.next ≡ l.count }
