use Rattle.std.proofs.Common.{ℕ, ◌+◌, ◌<◌, ◌≤◌}
use Rattle.std.specs.Prelude.{slice_index_or}
use Rattle.flow_model.specs.declared.edges.Edge.{Edge}
use Rattle.flow_model.specs.Networks.{residual}
use Rattle.flow_solver.proofs.onward.room_along.Given as goal

abbrev pub invariant-loop-edge : goal.invariant-loop-edge
invariant-loop-edge l =
    record {
      some : 0 < l.amount;
      units : l.network.pushed + l.amount ≤ l.network.instance.units;
      room : (k : ℕ) (d : Edge) → k < l.edge-index → l.amount ≤ residual l.network.instance l.network.flows (slice_index_or l.path k d);
      most : (more : ℕ) → ((k : ℕ) (d : Edge) → k < l.edge-index → more ≤ residual l.network.instance l.network.flows (slice_index_or l.path k d)) → l.network.pushed + more ≤ l.network.instance.units → more ≤ l.amount;
    }
