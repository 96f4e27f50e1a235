use Rattle.std.proofs.Common.{◌≡◌, ◌++◌, flat_map, take}
use Rattle.cache_model.specs.Texts.{text_of}
use Rattle.bound_report.specs.Sweeps.{capacity_lines}
use Rattle.bound_report.proofs.sweeps.append_points.Given as goal

-- the lines of the points before this one were appended
abbrev pub invariant-loop-point : goal.invariant-loop-point
invariant-loop-point l = l.text.items ≡ l.initial.text.items ++ flat_map (λ point. text_of (capacity_lines l.replays point)) (take l.point-index l.points)
