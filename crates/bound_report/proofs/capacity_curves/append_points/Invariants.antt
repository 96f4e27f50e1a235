use Rattle.std.proofs.Common.{◌≡◌, ◌++◌, map, take}
use Rattle.cache_model.specs.Texts.{text_of}
use Rattle.bound_report.specs.CapacityCurves.{point_line}
use Rattle.bound_report.proofs.capacity_curves.append_points.Given as goal

-- the lines of the points before this one were appended
abbrev pub invariant-loop-point : goal.invariant-loop-point
invariant-loop-point l = l.text.items ≡ l.initial.text.items ++ text_of (map (point_line l.denominator) (take l.point-index l.points))
