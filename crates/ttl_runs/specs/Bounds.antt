-- The certificate and the report of bounds with a time to live.
use Rattle.std.specs.Prelude.{◌≡◌, ℕ, Bool, true, false, if◌then◌else◌, List, length, None, Some}
use Rattle.cache_model.specs.declared.certificates.Header.{Header}
use Rattle.cache_model.specs.declared.certificates.Record.{Record}
use Rattle.cache_model.specs.Objects.{objects_of}
use Rattle.cache_model.specs.Texts.{cert_text}
use Rattle.bound_io.specs.Devices.{Device}
use Rattle.cache_rules.specs.Stored.{Requests}
use Rattle.trace_any.specs.declared.format.Format.{Format}
use Rattle.trace_any.specs.Loads.{IsLoaded}
use Rattle.trace_any.specs.Readers.{Notes}
use Rattle.trace_times.specs.Times.{AreTimes}
use Rattle.bound_terms.specs.declared.modes.Mode.{Mode}
use Rattle.bound_terms.specs.declared.modes.Mode.TheVariants.{Flow, Constant, Infinite}
use Rattle.bound_words.specs.declared.plans.BoundSettings.{BoundSettings}
use Rattle.bound_report.specs.declared.facts.BoundFacts.{BoundFacts}
use Rattle.bound_report.specs.declared.rendering.Counting.{Counting}
use Rattle.bound_report.specs.Rendering.{rendered}
use Rattle.bound_report.specs.Reports.{bound_lines}
use Rattle.run_counts.specs.Countings.{counting_of}
use Rattle.ttl_bounds.specs.declared.asked.TtlAsked.{TtlAsked}
use Rattle.ttl_bounds.specs.Made.{IsMadeWithTtl}

-- whether all prices are 0 in the mode
abbrev pub is_free : Mode → Bool
is_free Infinite = true
is_free Constant = false
is_free (Flow window) = false

-- the bounds that are asked for
abbrev pub asked_of : BoundSettings → TtlAsked
asked_of asked = record { terms = asked.terms; is_free = is_free asked.mode; denominator = asked.denominator; version = asked.version }

-- what the report states beside the header: the intervals, and what the schedule writes, if it is counted
abbrev pub facts_of : BoundSettings → Requests → ℕ → ℕ → ℕ → ℕ → Header → BoundFacts
facts_of asked trace dropped price intervals written h = record {
  header = h;
  objects = length (objects_of trace.objects);
  dropped = dropped;
  mode = asked.mode;
  price = price;
  intervals = intervals;
  written = if asked.writes then Some written else None;
}

-- the report
abbrev pub report_of : Counting → BoundFacts → List ℕ
report_of counting facts = rendered counting (bound_lines facts)

-- the certificate and the report are the texts of what is made of the trace with this ttl
pub record AreTextsWithTtl (format : Format) (asked : BoundSettings) (trace : Requests) (notes : Notes) (times : List ℕ) (ttl : ℕ) (cert report : List ℕ) : Type 0 where
  pub price : ℕ
  pub intervals : ℕ
  pub written : ℕ
  pub header : Header
  pub records : List Record
  pub made : IsMadeWithTtl (asked_of asked) trace times ttl price intervals written header records
  pub cert_is : cert ≡ cert_text header records
  pub report_is : report ≡ report_of (counting_of format header trace notes.noted) (facts_of asked trace notes.dropped price intervals written header)

-- the certificate and the report of all that the source had left
pub record IsReadyWithTtl (format : Format) (ttl : ℕ) (asked : BoundSettings) (source : Device) (cert report : List ℕ) : Type 0 where
  pub requests : Requests
  pub notes : Notes
  pub times : List ℕ
  pub loaded : IsLoaded format source requests notes
  pub times_are : AreTimes format source.before times
  pub each : length times ≡ length requests.objects
  pub texts : AreTextsWithTtl format asked requests notes times ttl cert report
