use Rattle.std.proofs.Common.{◌≡◌, ℕ, ◌+◌, ◌^◌, ◌≤◌, length, take, slice_index}
use Rattle.flow_uniform.specs.Cuts.{ends_at, flow_where}
use Rattle.flow_sparse.specs.Loads.{starts_at}
use Rattle.flow_sparse.proofs.loads.add_changes.Given as goal

abbrev pub invariant-loop-number : goal.invariant-loop-number
invariant-loop-number l =
    record {
      changed : (t : ℕ) → t ≤ l.instance.steps → slice_index l.changes t + flow_where (ends_at t) l.instance.arcs (take l.number l.flows) ≡ 2 ^ 100 + flow_where (starts_at t) l.instance.arcs (take l.number l.flows);
      each : length l.changes ≡ length l.initial.changes;
    }
