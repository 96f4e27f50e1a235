use Rattle.std.proofs.Common.{◌≡◌, ◌++◌, All, map, take}
use Rattle.capacity_curve.specs.Points.{IsPoint}
use Rattle.capacity_curve.proofs.making.push_by_distances.Given as goal

-- the points of the capacities before this one were appended
abbrev pub invariant-loop-k : goal.invariant-loop-k
invariant-loop-k l = record {
  at : map (λ point. point.capacity) l.points.items ≡ map (λ point. point.capacity) l.fn.points.items ++ take l.k l.capacities;
  points : All (IsPoint l.asked l.trace) l.points.items;
}
