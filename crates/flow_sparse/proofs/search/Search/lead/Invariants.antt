use Rattle.std.proofs.Common.{◌≡◌, length}
use Rattle.flow_sparse.specs.Searches.{IsSearch, AreSettled}
use Rattle.flow_sparse.proofs.search.Search.lead.Given as goal

abbrev pub invariant-loop-node : goal.invariant-loop-node
invariant-loop-node l =
    record {
      search : IsSearch l.network l.from l.self;
      settled : AreSettled l.network l.self;
      each_distance : length l.self.distances ≡ length l.initial.self.distances;
      each_parent : length l.self.parents ≡ length l.initial.self.parents;
    }
