-- What a curve over capacities shows.
use Rattle.std.specs.Prelude.{◌≡◌, ℕ, List, length}
use Rattle.cache_rules.specs.Stored.{Requests}
use Rattle.cache_model.specs.Objects.{objects_of}
use Rattle.capacity_curve.specs.declared.points.CurveTerms.{CurveTerms}
use Rattle.capacity_curve.specs.declared.points.Point.{Point}
use Rattle.capacity_curve.specs.Points.{ArePoints}
use Rattle.bound_report.specs.declared.capacity_curves.CapacityCurveFacts.{CapacityCurveFacts}
use Rattle.bound_report.specs.CapacityCurves.{capacity_curve_lines}
use Rattle.bound_report.specs.Rendering.{rendered}
use Rattle.trace_any.specs.declared.format.Format.{Format}
use Rattle.trace_any.specs.Readers.{Notes}
use Rattle.run_counts.specs.Countings.{counting_from}

-- what the report of a curve over capacities states
abbrev pub capacity_facts : CurveTerms → Requests → ℕ → CapacityCurveFacts
capacity_facts asked trace dropped = record { requests = length trace.objects; objects = length (objects_of trace.objects); dropped = dropped; asked = asked }

-- the text is that of the points at these capacities
pub record IsCapacityCurveText (format : Format) (asked : CurveTerms) (capacities : List ℕ) (trace : Requests) (notes : Notes) (text : List ℕ) : Type 0 where
  pub points : List Point
  pub are_points : ArePoints asked trace capacities points
  pub text_is : text ≡ rendered (counting_from format asked.warmup trace notes.noted) (capacity_curve_lines (capacity_facts asked trace notes.dropped) points)
