use Rattle.std.proofs.Common.{◌≡◌}
use Rattle.flow_solver.specs.Searches.{IsSearchToLast, AreSettledToLast, work_left}
use Rattle.flow_solver.proofs.search.Search.run.Given as goal

abbrev pub invariant-loop-node : goal.invariant-loop-node
invariant-loop-node l =
    record {
      search : IsSearchToLast l.network l.self;
      settled : AreSettledToLast l.network l.self;
      unstacked : l.self.depth ≡ 0;
    }

abbrev pub decreases-loop-node : goal.decreases-loop-node
decreases-loop-node l = work_left l.self
