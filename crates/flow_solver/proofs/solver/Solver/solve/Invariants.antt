use Rattle.std.proofs.Common.{◌≡◌, ◌+◌, ◌-◌, ◌*◌, length}
use Rattle.flow_parts.specs.OuterEdges.{AreListed}
use Rattle.flow_solver.specs.Searches.{HasSearchRoom, IsReady}
use Rattle.flow_solver.proofs.solver.Solver.solve.Given as goal

abbrev pub invariant-loop-network : goal.invariant-loop-network
invariant-loop-network l =
    record {
      ready : IsReady l.network;
      same : l.network.instance ≡ l.initial.network.instance;
      edges : AreListed l.network.instance l.edges (2 * length l.network.instance.arcs);
      room : HasSearchRoom l.network.instance.steps l.search;
      marks : length l.dead ≡ l.network.instance.steps + 1;
      path : length l.path.items ≡ l.network.instance.steps;
    }

abbrev pub decreases-loop-network : goal.decreases-loop-network
decreases-loop-network l = l.network.instance.units - l.network.pushed
