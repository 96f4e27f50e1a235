use Rattle.std.proofs.Common.{◌≡◌, ◌+◌, ◌≤◌, count_by, drop, filter, map, take, vec_len, vec_capacity}
use Rattle.flow_model.specs.Windows.{meets, part_of}
use Rattle.flow_windows.proofs.parts.window_instance.Given as goal

abbrev pub invariant-loop-arc : goal.invariant-loop-arc
invariant-loop-arc l = record {
  parts : l.parts.items ≡ map (part_of l.width l.number) (filter (meets l.width l.number) (take l.arc-index l.arcs));
  room : vec_len l.parts + count_by (meets l.width l.number) (drop l.arc-index l.arcs) ≤ vec_capacity l.parts;
}
