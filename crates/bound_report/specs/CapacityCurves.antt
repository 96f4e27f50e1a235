-- The lines of a curve over capacities.
use Rattle.std.specs.Prelude.{ℕ, ◌/◌, List, [], ◌∷◌, ◌++◌, codes, map}
use Rattle.cache_model.specs.Texts.{entry, objective_word}
use Rattle.bound_report.specs.Rendering.{Lines}
use Rattle.capacity_curve.specs.declared.points.CurveTerms.{CurveTerms}
use Rattle.capacity_curve.specs.declared.points.Point.{Point}
use Rattle.bound_report.specs.Reports.{ratio, trace_line}
use Rattle.bound_report.specs.declared.capacity_curves.CapacityCurveFacts.{CapacityCurveFacts}

-- the objective and the denominator
abbrev pub asked_line : CurveTerms → List ℕ
asked_line asked = entry (codes "curve objective " ++ objective_word asked.objective ++ codes " denominator") asked.denominator

-- a capacity, LRU's hits and their bytes at it, and the upper bound with its floor
abbrev pub point_line : ℕ → Point → List ℕ
point_line denominator point =
    let counts = entry (entry (entry (codes "capacity") point.capacity ++ codes " lru") point.hits ++ codes " bytes") point.bytes in
    entry (ratio (counts ++ codes " upper") point.upper denominator ++ codes " floor") (point.upper / denominator)

-- the lines of a curve over capacities: the counts of the trace, what is asked for, and each point
abbrev pub capacity_curve_lines : CapacityCurveFacts → List Point → Lines
capacity_curve_lines facts points = record {
  front = trace_line facts.requests facts.objects facts.dropped ∷ [];
  head = asked_line facts.asked ∷ [];
  back = map (point_line facts.asked.denominator) points;
}
