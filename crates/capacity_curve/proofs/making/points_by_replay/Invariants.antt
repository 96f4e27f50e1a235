use Rattle.std.proofs.Common.{◌≡◌, All, map, take}
use Rattle.capacity_curve.specs.Points.{IsPoint}
use Rattle.capacity_curve.proofs.making.points_by_replay.Given as goal

-- the points are at the capacities before this one
abbrev pub invariant-loop-capacity : goal.invariant-loop-capacity
invariant-loop-capacity l = record {
  at : map (λ point. point.capacity) l.points.items ≡ take l.capacity-index l.capacities;
  points : All (IsPoint l.asked l.trace) l.points.items;
}
