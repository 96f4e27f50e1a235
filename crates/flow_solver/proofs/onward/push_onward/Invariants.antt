use Rattle.std.proofs.Common.{◌≡◌, ◌+◌, ◌-◌, ◌*◌, length}
use Rattle.flow_parts.specs.OuterEdges.{AreListed}
use Rattle.flow_solver.specs.Rounds.{Keeps}
use Rattle.flow_solver.proofs.onward.push_onward.Given as goal

abbrev pub invariant-loop-network : goal.invariant-loop-network
invariant-loop-network l =
    record {
      keeps : Keeps l.initial.network l.network;
      edges : AreListed l.network.instance l.edges (2 * length l.network.instance.arcs);
      marks : length l.dead ≡ l.network.instance.steps + 1;
      same_marks : length l.dead ≡ length l.initial.dead;
      path_room : length l.path ≡ l.network.instance.steps;
    }

abbrev pub decreases-loop-network : goal.decreases-loop-network
decreases-loop-network l = l.network.instance.units - l.network.pushed
