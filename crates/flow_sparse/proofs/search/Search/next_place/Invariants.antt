use Rattle.std.proofs.Common.{ℕ, ◌≤◌, ◌<◌}
use Rattle.flow_sparse.specs.Ranges.{listed_at}
use Rattle.flow_sparse.specs.Searches.{IsNoWay}
use Rattle.flow_sparse.proofs.search.Search.next_place.Given as goal

abbrev pub invariant-loop-place : goal.invariant-loop-place
invariant-loop-place l =
    record {
      passed : (p : ℕ) → l.first ≤ p → p < l.place → IsNoWay l.lists l.self (listed_at l.lists.edges p) l.near l.fell;
    }
