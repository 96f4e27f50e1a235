use Rattle.std.proofs.Common.{◌≡◌, ℕ, ◌-◌, ◌≤◌, ◌<◌, length}
use Rattle.flow_parts.specs.OuterEdges.{edge_of}
use Rattle.flow_sparse.specs.Ranges.{woken_at, woken_tail}
use Rattle.flow_sparse.specs.Searches.{Nears, Rests, IsSettledBy}
use Rattle.flow_sparse.proofs.search.Search.relax_chain.Given as goal

abbrev pub invariant-loop-left : goal.invariant-loop-left
invariant-loop-left l =
    record {
      low : l.left ≤ length l.lists.woken;
      here : 0 < l.left → woken_tail l.network.instance l.lists.woken (l.left - 1) ≡ l.node;
      nears : Nears l.network l.from l.initial.self l.self;
      settled : Rests l.self l.node
          → (i : ℕ) → l.left ≤ i → i < length l.lists.woken → woken_tail l.network.instance l.lists.woken i ≡ l.node
          → IsSettledBy l.network l.self (edge_of (length l.network.instance.arcs) (woken_at l.lists.woken i).number);
    }

abbrev pub decreases-loop-left : goal.decreases-loop-left
decreases-loop-left l = l.left
