use Rattle.std.proofs.Common.{◌≤◌}
use Rattle.flow_solver.specs.Searches.{IsSearchToLast, AreSettledToLast, work_left}
use Rattle.flow_solver.proofs.search.Search.drain.Given as goal

abbrev pub invariant-loop-node : goal.invariant-loop-node
invariant-loop-node l =
    record {
      search : IsSearchToLast l.network l.self;
      settled : AreSettledToLast l.network l.self;
      falls : work_left l.self ≤ work_left l.initial.self;
    }

abbrev pub decreases-loop-node : goal.decreases-loop-node
decreases-loop-node l = work_left l.self
