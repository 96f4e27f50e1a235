use Rattle.std.proofs.Common.{◌≡◌, ◌-◌, ◌*◌, ◌<◌, ◌≤◌, length}
use Rattle.flow_parts.specs.OuterEdges.{tail_of}
use Rattle.flow_solver.proofs.onward.arc_on.Given as goal

abbrev pub invariant-loop-left : goal.invariant-loop-left
invariant-loop-left l =
    record {
      within : l.left ≤ 2 * length l.network.instance.arcs;
      here : 0 < l.left → tail_of l.network.instance.arcs (l.left - 1) ≡ l.node;
    }

abbrev pub decreases-loop-left : goal.decreases-loop-left
decreases-loop-left l = l.left
