use Rattle.std.proofs.Common.{◌≡◌, ◌≤◌, length, map, take, vec_len, vec_capacity}
use Rattle.flow_model.specs.Instances.{arc_at}
use Rattle.flow_model.specs.Windows.{part_of}
use Rattle.flow_windows.proofs.windows.Windows.instance.Given as goal

abbrev pub invariant-loop-number : goal.invariant-loop-number
invariant-loop-number l = record {
  parts : l.parts.items ≡ map (λ n. part_of l.self-inside.width l.self-inside.number (arc_at l.arcs n)) (take l.number-index l.self-inside.met.items);
  count : vec_len l.parts ≡ l.number-index;
  room : length l.self-inside.met.items ≤ vec_capacity l.parts;
}
