use Rattle.std.proofs.Common.{◌≡◌, ℕ, ◌-◌, ◌≤◌, ◌<◌, length, slice_index}
use Rattle.flow_parts.specs.OuterEdges.{edge_of, tail_of}
use Rattle.flow_sparse.specs.Ranges.{IsEntry, listed_at}
use Rattle.flow_sparse.specs.Searches.{Nears, Rests, IsSettledBy, listed_potential}
use Rattle.flow_sparse.proofs.search.Search.relax_listed.Given as goal

abbrev pub invariant-loop-place : goal.invariant-loop-place
invariant-loop-place l =
    record {
      low : slice_index l.lists.first l.node ≤ l.place;
      high : l.place ≤ l.past;
      nears : Nears l.network l.from l.initial.self l.self;
      settled : Rests l.self l.node
          → (p k : ℕ) → slice_index l.lists.first l.node ≤ p → p < l.place → tail_of l.network.instance.arcs k ≡ l.node → IsEntry l.network.instance (listed_potential l.network l.lists) (listed_at l.lists.edges p) k
          → IsSettledBy l.network l.self (edge_of (length l.network.instance.arcs) k);
    }

abbrev pub decreases-loop-place : goal.decreases-loop-place
decreases-loop-place l = l.past - l.place
