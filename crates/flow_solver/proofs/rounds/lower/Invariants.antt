use Rattle.std.proofs.Common.{◌≡◌, ℕ, ◌≤◌, ◌<◌, slice_index}
use Rattle.flow_network.specs.States.{IsState}
use Rattle.flow_parts.specs.Searches.{lowered}
use Rattle.flow_solver.specs.Searches.{limit_of}
use Rattle.flow_solver.proofs.rounds.lower.Given as goal

abbrev pub invariant-loop-node : goal.invariant-loop-node
invariant-loop-node l =
    record {
      rest : l.network ≡ record l.initial.network { potentials = l.network.potentials };
      fits : IsState l.network;
      done : (k : ℕ) → k < l.node → slice_index l.network.potentials k ≡ lowered l.initial.network.potentials l.search.distances (limit_of l.initial.network l.search.distances) k;
      later : (k : ℕ) → l.node ≤ k → slice_index l.network.potentials k ≡ slice_index l.initial.network.potentials k;
    }
