-- How a run ends, from how its parts end.
use Rattle.std.proofs.Common.{◌≡◌, ℕ, refl, List, Some, None, IfSome}
use Rattle.std.specs.declared.option.Option.{Option}
use Rattle.bound_io.specs.Devices.{device, Device, Gets, IsUntouched}
use Rattle.cache_rules.specs.Stored.{Requests as Trail}
use Rattle.trace_any.specs.declared.fault.TraceFault.{TraceFault as FaultOfTrace}
use Rattle.trace_any.specs.declared.fault.TraceFault.TheVariants as trace
use Rattle.trace_any.specs.declared.format.Format.{Format}
use Rattle.trace_any.specs.FirstLines.{HasLostThrough}
use Rattle.trace_any.specs.Readings.{full_limits}
use Rattle.trace_any.specs.Readers.{IsNotLoaded, Notes, fresh, to_come, known}
use Rattle.trace_any.proofs.Coming.{fresh_to_come}
use Rattle.bound_words.specs.declared.plans.BoundSettings.{BoundSettings}
use Rattle.bound_words.specs.declared.plans.DrawSettings.{DrawSettings}
use Rattle.bound_run.specs.declared.bounds.BoundsFault.{BoundsFault}
use Rattle.bound_run.specs.declared.bounds.BoundsFault.TheVariants as bounds
use Rattle.bound_run.specs.BoundsFaults.{FailsBounds}
use Rattle.ttl_bounds.specs.declared.faults.TtlBoundsFault.{TtlBoundsFault}
use Rattle.ttl_bounds.specs.declared.faults.TtlBoundsFault.TheVariants as ttl_bounds
use Rattle.ttl_bounds.specs.Faults.{FailsTtlBounds}
use Rattle.ttl_runs.specs.Bounds.{asked_of}
use Rattle.stack_curve.specs.declared.pass.CurveFault.{CurveFault}
use Rattle.stack_curve.specs.declared.pass.CurveFault.TheVariants as curve
use Rattle.stack_curve.specs.Curves.{IsCause}
use Rattle.bound_run.specs.BoundsMade.{AreTexts}
use Rattle.bound_report.specs.declared.refusal.LimitName.TheVariants.{Denominator}
use Rattle.bound_report.specs.declared.refusal.Refusal.{Refusal}
use Rattle.bound_report.specs.declared.refusal.Refusal.TheVariants as refusal
use Rattle.bound_report.specs.Refusals.{refusal_line}
use Rattle.bound_run.specs.Statuses.{Ending, done, refused, unreported, ending_of, refusal_of, refusal_of_bounds, refusal_of_curve, refusal_of_ttl_bounds, status_of}
use Rattle.bound_run.specs.Demos.{trace_drawn}
use Rattle.bound_run.specs.Refusals.{RefusesDemo, RefusesBounds, RefusesCurve, RefusesLoading}
use Rattle.trace_any.specs.Loads.{IsLoaded, IsRefused}
use Rattle.bound_run.specs.Readings.{IsReady}
use Rattle.bound_run.specs.Run.{MakesEnd, ReportsEnd}
use Rattle.bound_run.specs.Writings.{WritesOut, WritesReport}

-- what a reader that has read nothing refuses is what the reading of all is refused for
refused_all : (format : Format) (before after : Option (List ℕ)) (faults_before faults_after : ℕ) (fault : FaultOfTrace)
    → IfSome (known (fresh format full_limits) before) (λ bytes. (to_come (fresh format full_limits) bytes).refused ≡ Some fault) → IsRefused format (device before after faults_before faults_after) fault
refused_all format None after faults_before faults_after fault why = tt
refused_all format (Some bytes) after faults_before faults_after fault why = rw (fresh_to_come) at why

-- why nothing is loaded, and how little was lost, as the refusal of a run
pub not_loaded : (format : Format) (before after : Option (List ℕ)) (faults_before faults_after : ℕ) (fault : FaultOfTrace)
    → IsNotLoaded (fresh format full_limits) (known (fresh format full_limits) before) faults_before faults_after fault → HasLostThrough format full_limits (device before after faults_before faults_after) fault
    → RefusesLoading format (device before after faults_before faults_after) (refusal_of fault)
not_loaded format before after faults_before faults_after (trace.BadLine line kind) why lost = (refused_all format before after faults_before faults_after (trace.BadLine line kind) why, lost)
not_loaded format before after faults_before faults_after trace.ReadFault why lost = why
not_loaded format before after faults_before faults_after trace.InputTooLong why lost = (refused_all format before after faults_before faults_after trace.InputTooLong why, lost)
not_loaded format before after faults_before faults_after trace.TooManyRequests why lost = (refused_all format before after faults_before faults_after trace.TooManyRequests why, lost)
not_loaded format before after faults_before faults_after trace.NoMemory why lost = tt

-- the bounds of a trace, once it is loaded
pub ready_of : (format : Format) (asked : BoundSettings) (d : Device) (requests : Trail) (notes : Notes) (cert report : List ℕ)
    → IsLoaded format d requests notes → AreTexts format asked requests notes cert report → IsReady format asked d cert report
ready_of format asked d requests notes cert report loaded texts = record { requests = requests; notes = notes; loaded = loaded; texts = texts }

-- what refuses the bounds of a trace that is loaded
pub refused_of : (format : Format) (asked : BoundSettings) (d : Device) (requests : Trail) (notes : Notes) (fault : BoundsFault)
    → IsLoaded format d requests notes → FailsBounds asked requests fault → RefusesBounds format asked d (refusal_of_bounds fault)
refused_of format asked d requests notes bounds.Denominator loaded why = record { requests = requests; notes = notes; loaded = loaded; refused = why }
refused_of format asked d requests notes bounds.NoMemory loaded why = tt

-- the same of bounds with a time to live
pub refused_with_ttl : (format : Format) (asked : BoundSettings) (d : Device) (requests : Trail) (notes : Notes) (fault : TtlBoundsFault)
    → IsLoaded format d requests notes → FailsTtlBounds (asked_of asked) requests fault → RefusesBounds format asked d (refusal_of_ttl_bounds fault)
refused_with_ttl format asked d requests notes ttl_bounds.Denominator loaded why = record {
  requests = requests;
  notes = notes;
  loaded = loaded;
  refused = record { exact = why.exact; unit = why.unit; unit_is = why.unit_is; past = why.past };
}
refused_with_ttl format asked d requests notes ttl_bounds.NoMemory loaded why = tt

-- what refuses the trace refuses its bounds
pub loading_refuses : (format : Format) (asked : BoundSettings) (d : Device) (why : Refusal) → RefusesLoading format d why → RefusesBounds format asked d why
loading_refuses format asked d (refusal.Limit Denominator) e = absurd e
loading_refuses format asked d why e = e

-- a refusal is that of its status
pub ending_of-status_of : (why : Refusal) → ending_of (status_of why) ≡ refused why
ending_of-status_of (refusal.Invalid line kind) = refl
ending_of-status_of (refusal.NotFlag line) = refl
ending_of-status_of (refusal.FlagCount flags requests) = refl
ending_of-status_of (refusal.Impossible cause capacity) = refl
ending_of-status_of (refusal.Words place kind) = refl
ending_of-status_of (refusal.BadLine line kind) = refl
ending_of-status_of (refusal.Limit name) = refl
ending_of-status_of (refusal.Unequal first other) = refl
ending_of-status_of refusal.TraceFault = refl
ending_of-status_of refusal.CertFault = refl
ending_of-status_of refusal.MadeFault = refl
ending_of-status_of (refusal.PolicyMemory policy capacity) = refl
ending_of-status_of refusal.NoMemory = refl

module _ (AreReady : List ℕ → List ℕ → Type 0) (Refuses : Refusal → Type 0) (report made : Device) where
  -- a run that wrote its certificate and its report, or failed to
  pub makes_written : (cert text : List ℕ) (ending : Ending) → AreReady cert text → WritesOut report made cert text ending → MakesEnd AreReady Refuses report made ending
  makes_written cert text done ready (made_all, report_all) = (cert, text, ready, made_all, report_all)
  makes_written cert text unreported ready (made_all, report_less) = (cert, text, ready, made_all, report_less)
  makes_written cert text (refused refusal.MadeFault) ready (made_less, line) = (cert, text, ready, made_less, line)
  makes_written cert text (refused why) ready written = absurd (written.1)

  -- a run that made none
  pub makes_refused : (why : Refusal) → (Refuses refusal.MadeFault → ⊥) → Refuses why → IsUntouched made → Gets report (refusal_line why) → MakesEnd AreReady Refuses report made (refused why)
  makes_refused refusal.MadeFault never e untouched line = absurd (never e)
  makes_refused why never e untouched line = (e, line, untouched)

-- a report that was written, or failed to be
pub reports_written : (IsText : List ℕ → Type 0) (Refuses : Refusal → Type 0) (report : Device) (text : List ℕ) (ending : Ending)
    → IsText text → WritesReport report text ending → ReportsEnd IsText Refuses report ending
reports_written IsText Refuses report text done is all = (text, is, all)
reports_written IsText Refuses report text unreported is less = (text, is, less)
reports_written IsText Refuses report text (refused why) is written = absurd written

-- curves

module _ (format : Format) (source : Device) where
  -- what refuses the trace refuses its curve
  pub loading_refuses_curve : (why : Refusal) → RefusesLoading format source why → RefusesCurve format source why
  loading_refuses_curve (refusal.Unequal first other) e = absurd e
  loading_refuses_curve why e = e

  -- what refuses the curve of a trace that is loaded
  pub curve_refused : (requests : Trail) (notes : Notes) (fault : CurveFault) → IsLoaded format source requests notes → IsCause requests.objects fault → RefusesCurve format source (refusal_of_curve fault)
  curve_refused requests notes (curve.Unequal first other) loaded why = record { requests = requests; notes = notes; loaded = loaded; clash = why }
  curve_refused requests notes curve.NoMemory loaded why = tt

-- what refuses the bounds of the trace refuses the demo
pub demo_refused : (drawing : DrawSettings) (asked : BoundSettings) (fault : BoundsFault) → FailsBounds asked (trace_drawn drawing) fault → RefusesDemo drawing asked (refusal_of_bounds fault)
demo_refused drawing asked bounds.Denominator why = why
demo_refused drawing asked bounds.NoMemory why = tt
