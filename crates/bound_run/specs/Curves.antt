-- What a curve shows.
use Rattle.std.specs.Prelude.{◌≡◌, ℕ, ◌/◌, ◌==◌, ◌≤◌, if◌then◌else◌, List, length}
use Rattle.cache_rules.specs.Stored.{Requests}
use Rattle.cache_model.specs.Objects.{objects_of}
use Rattle.policy_model.specs.declared.names.PolicyName.TheVariants.{Lru}
use Rattle.policy_model.specs.Runs.{policy_run}
use Rattle.stack_curve.specs.Curves.{first_size}
use Rattle.stack_curve.specs.Distances.{curve_hits}
use Rattle.stack_curve.specs.Laws.{HaveSize}
use Rattle.bound_report.specs.declared.curves.CurveFacts.{CurveFacts}
use Rattle.bound_report.specs.Curves.{curve_lines}
use Rattle.bound_report.specs.Rendering.{rendered}
use Rattle.trace_any.specs.declared.format.Format.{Format}
use Rattle.trace_any.specs.Readers.{Notes}
use Rattle.run_counts.specs.Countings.{counting_from}

-- the counts of the trace that a curve is of
abbrev pub curve_facts : Requests → ℕ → CurveFacts
curve_facts trace dropped = record { requests = length trace.objects; objects = length (objects_of trace.objects); dropped = dropped }

-- the hits of the curve at a capacity: at as many slots as objects fit, and 0 if there are no objects
abbrev pub hits_at : Requests → ℕ → ℕ
hits_at trace capacity = if first_size trace.objects == 0 then 0 else curve_hits trace.objects trace.fills (capacity / first_size trace.objects)

-- the text is the curve of the trace, whose objects have one size, and its hits are LRU's at every capacity
pub record IsCurveText (format : Format) (trace : Requests) (notes : Notes) (text : List ℕ) : Type 0 where
  pub one_size : HaveSize (first_size trace.objects) trace.objects
  pub text_is : text ≡ rendered (counting_from format 0 trace notes.noted) (curve_lines (curve_facts trace notes.dropped) (first_size trace.objects) (curve_hits trace.objects trace.fills))
  pub of_lru : (capacity : ℕ) → 1 ≤ capacity → hits_at trace capacity ≡ (policy_run Lru trace.objects capacity 0 trace.fills).hits
