-- What comes of reading the inputs of a run: the trace, and the certificate of a check.
use Rattle.std.specs.Prelude.{◌≡◌, ℕ, IsTrue, List, [], length, Some, None, IfSome}
use Rattle.std.specs.declared.option.Option.{Option}
use Rattle.bound_io.specs.Devices.{Device}
use Rattle.cache_rules.specs.Stored.{Requests}
use Rattle.cache_model.specs.declared.certificates.Header.{Header}
use Rattle.cache_model.specs.declared.certificates.Record.{Record}
use Rattle.cache_model.specs.Claim.{BoundsEveryPolicy}
use Rattle.cache_model.specs.Certificates.{IsLeastOverAll, IsValid}
use Rattle.cache_model.specs.Objects.{objects_of}
use Rattle.cache_model.specs.Texts.{cert_text}
use Rattle.trace_any.specs.declared.format.Format.{Format}
use Rattle.trace_any.specs.Readers.{Notes}
use Rattle.trace_any.specs.Readings.{Reading, reading, full_limits}
use Rattle.trace_any.specs.Loads.{IsLoaded}
use Rattle.cert_checker.specs.declared.verdict.Verdict.{Verdict}
use Rattle.cert_checker.specs.Walks.{Event, walk}
use Rattle.bound_words.specs.declared.plans.BoundSettings.{BoundSettings}
use Rattle.bound_words.specs.declared.plans.ReplaySettings.{ReplaySettings}
use Rattle.stack_curve.specs.Curves.{IsClash}
use Rattle.capacity_curve.specs.declared.points.CurveTerms.{CurveTerms}
use Rattle.bound_run.specs.CapacityCurves.{IsCapacityCurveText}
use Rattle.bound_run.specs.Curves.{IsCurveText}
use Rattle.bound_run.specs.BoundsMade.{AreTexts, RefusesDenominator}
use Rattle.bound_run.specs.Replays.{IsReplayText}
use Rattle.run_counts.specs.Countings.{counting_of}
use Rattle.bound_run.specs.Reports.{verdict_report}

-- the requests of a reading, with their marks
abbrev pub trace_in : Reading → Requests
trace_in r = record { objects = r.requests; fills = r.fills }

-- the certificate and the report of all that the source had left
pub record IsReady (format : Format) (asked : BoundSettings) (source : Device) (cert report : List ℕ) : Type 0 where
  pub requests : Requests
  pub notes : Notes
  pub loaded : IsLoaded format source requests notes
  pub texts : AreTexts format asked requests notes cert report

-- the report of the replay of all that the source had left
pub record IsReplayed (format : Format) (r : ReplaySettings) (source : Device) (text : List ℕ) : Type 0 where
  pub requests : Requests
  pub notes : Notes
  pub loaded : IsLoaded format source requests notes
  pub report : IsReplayText format r requests notes text

-- the report of the curve of all that the source had left
pub record IsCurved (format : Format) (source : Device) (text : List ℕ) : Type 0 where
  pub requests : Requests
  pub notes : Notes
  pub loaded : IsLoaded format source requests notes
  pub report : IsCurveText format requests notes text

-- the report of the curve over these capacities of all that the source had left
pub record IsCapacityCurved (format : Format) (asked : CurveTerms) (capacities : List ℕ) (source : Device) (text : List ℕ) : Type 0 where
  pub requests : Requests
  pub notes : Notes
  pub loaded : IsLoaded format source requests notes
  pub report : IsCapacityCurveText format asked capacities requests notes text

-- all that the source had left was read, and two objects of it differ in size
pub record IsUnequal (format : Format) (source : Device) (first other : ℕ) : Type 0 where
  pub requests : Requests
  pub notes : Notes
  pub loaded : IsLoaded format source requests notes
  pub clash : IsClash requests.objects first other

-- all that the source had left was read, and the denominator that is asked for passes its limit
pub record IsPastDenominator (format : Format) (asked : BoundSettings) (source : Device) : Type 0 where
  pub requests : Requests
  pub notes : Notes
  pub loaded : IsLoaded format source requests notes
  pub refused : RefusesDenominator asked requests

-- this is the first event of the walk over all that the two sources had left, if the bytes of both are known
abbrev pub IsFirstEvent : Format → Device → Device → Event → Type 0
IsFirstEvent format trace cert event =
    IfSome trace.before (λ bytes. IfSome cert.before (λ text. walk (reading format full_limits bytes) text ≡ Some event))

-- a yes: all that the sources had left is a trace and the text of a valid certificate of it, so no policy scores more than its upper bound, and in the form exact no prices over its unit have a smaller one
pub record IsAccepted (format : Format) (trace cert : Device) (verdict : Verdict) (notes : Notes) : Type 0 where
  pub requests : Requests
  pub records : List Record
  pub loaded : IsLoaded format trace requests notes
  pub objects : verdict.objects ≡ length (objects_of requests.objects)
  pub valid : IsValid requests.objects requests.fills verdict.header records
  pub bounds : BoundsEveryPolicy requests.objects requests.fills verdict.header
  pub least : IsTrue verdict.header.exact → IsLeastOverAll requests.objects requests.fills verdict.header records
  pub text : IfSome cert.before (λ text. text ≡ cert_text verdict.header records)
  pub nothing_left : IfSome cert.before (λ text. cert.after ≡ Some [])

-- the text of a yes
pub record IsVerdictText (format : Format) (source cert : Device) (text : List ℕ) : Type 0 where
  pub verdict : Verdict
  pub notes : Notes
  pub accepted : IsAccepted format source cert verdict notes
  pub text_is : text ≡ verdict_report (counting_of format verdict.header accepted.requests notes.noted) verdict notes.dropped

-- the bytes are the text of a certificate that is valid for the trace
pub record IsCertified (format : Format) (bytes text : List ℕ) : Type 0 where
  pub header : Header
  pub records : List Record
  pub text_is : text ≡ cert_text header records
  pub valid : IsValid (reading format full_limits bytes).requests (reading format full_limits bytes).fills header records

-- the bytes are known, and are a trace within the limits
abbrev pub IsGoodTrace : Format → Option (List ℕ) → Type 0
IsGoodTrace format None = ⊥
IsGoodTrace format (Some bytes) = (reading format full_limits bytes).refused ≡ None

-- the trace has no denominator that is refused
abbrev pub HasDenominator : Format → BoundSettings → Option (List ℕ) → Type 0
HasDenominator format asked None = ⊥
HasDenominator format asked (Some bytes) = ¬ (RefusesDenominator asked (trace_in (reading format full_limits bytes)))
