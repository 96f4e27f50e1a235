use Rattle.std.proofs.Common.{◌≡◌, ◌≤◌, length, map, take, vec_len, vec_capacity}
use Rattle.flow_model.specs.Instances.{arc_of}
use Rattle.relaxation.proofs.arcs.instance.Given as goal

abbrev pub invariant-loop-interval : goal.invariant-loop-interval
invariant-loop-interval l = record {
  arcs : l.arcs.items ≡ map (arc_of l.unit l.denominator) (take l.interval-index l.items);
  room : length l.items ≤ vec_capacity l.arcs;
  count : vec_len l.arcs ≡ l.interval-index;
}
