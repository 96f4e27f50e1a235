use Rattle.std.proofs.Common.{◌≡◌, ℕ, ◌≤◌, ◌<◌, length, take}
use Rattle.flow_model.specs.Pushes.{push_path, edge_at}
use Rattle.flow_model.proofs.Pushes.{flow_of}
use Rattle.flow_model.specs.Networks.{Flows}
use Rattle.flow_network.proofs.pushing.push_along.Given as goal

abbrev pub invariant-loop-edge : goal.invariant-loop-edge
invariant-loop-edge l =
    let now : Flows = record { outer = l.outer; inner = l.inner } in
    let first : Flows = record { outer = l.initial.outer; inner = l.initial.inner } in
    record {
      pushed : now ≡ push_path l.amount first (take l.edge-index l.path);
      outer_length : length now.outer ≡ length first.outer;
      inner_length : length now.inner ≡ length first.inner;
      rest : (j : ℕ) → l.edge-index ≤ j → j < length l.path → flow_of now (edge_at l.path j) ≡ flow_of first (edge_at l.path j);
    }
