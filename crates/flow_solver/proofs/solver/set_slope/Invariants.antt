use Rattle.std.proofs.Common.{◌≡◌, ℕ, ◌-◌, ◌*◌, ◌^◌, ◌<◌, get_or}
use Rattle.flow_network.specs.States.{IsState}
use Rattle.flow_solver.proofs.solver.set_slope.Given as goal

abbrev pub invariant-loop-node : goal.invariant-loop-node
invariant-loop-node l =
    record {
      rest : l.network ≡ record l.initial.network { potentials = l.network.potentials };
      fits : IsState l.network;
      slope : (k : ℕ) → k < l.node → get_or l.network.potentials k 0 ≡ (l.initial.network.instance.steps - k) * 2 ^ 97;
    }
