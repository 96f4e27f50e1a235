use Rattle.std.proofs.Common.{◌≡◌, ℕ, ◌-◌, ◌*◌, ◌≤◌, ◌<◌, length}
use Rattle.flow_parts.specs.OuterEdges.{edge_of, tail_of}
use Rattle.flow_solver.specs.Searches.{IsSettledToLast, NearsToLast, WaitsNowhere}
use Rattle.flow_solver.proofs.search.Search.relax_outer.Given as goal

abbrev pub invariant-loop-left : goal.invariant-loop-left
invariant-loop-left l =
    record {
      nears : NearsToLast l.network l.initial.self l.self;
      within : l.left ≤ 2 * length l.network.instance.arcs;
      here : 0 < l.left → tail_of l.network.instance.arcs (l.left - 1) ≡ l.node;
      settled : WaitsNowhere l.self l.node → (k : ℕ) → l.left ≤ k → k < 2 * length l.network.instance.arcs → tail_of l.network.instance.arcs k ≡ l.node → IsSettledToLast l.network l.self.distances (edge_of (length l.network.instance.arcs) k);
    }

abbrev pub decreases-loop-left : goal.decreases-loop-left
decreases-loop-left l = l.left
