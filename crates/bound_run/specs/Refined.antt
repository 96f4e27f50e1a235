-- What a refinement makes of a certificate.
use Rattle.std.specs.Prelude.{◌≡◌, ℕ, ◌-◌, ◌*◌, ◌^◌, ◌≤◌, List, [], length, map, slice_index_or, sum, zip, Some, IfSome}
use Rattle.bound_io.specs.Devices.{Device}
use Rattle.cache_rules.specs.Stored.{Requests}
use Rattle.cache_model.specs.declared.certificates.Header.{Header}
use Rattle.cache_model.specs.declared.certificates.Record.{Record}
use Rattle.cache_model.specs.Certificates.{eligible_of, units_of, IsValid}
use Rattle.cache_model.specs.Claim.{BoundsEveryPolicy}
use Rattle.cache_model.specs.Intervals.{bound_of}
use Rattle.cache_model.specs.Objects.{objects_of}
use Rattle.cache_model.specs.Texts.{cert_text}
use Rattle.cert_checker.specs.declared.verdict.Verdict.{Verdict}
use Rattle.cert_checker.specs.Keeping.{Checked}
use Rattle.price_refine.specs.Blocks.{AreSettled}
use Rattle.price_refine.specs.Refinements.{Refinement}
use Rattle.trace_any.specs.declared.format.Format.{Format}
use Rattle.trace_any.specs.Readers.{Notes}
use Rattle.trace_any.specs.Loads.{IsLoaded}
use Rattle.run_counts.specs.Countings.{counting_of}
use Rattle.bound_run.specs.Reports.{refined_report}

-- the header with another upper bound
abbrev pub with_upper : Header → ℕ → Header
with_upper h upper = record h { upper = upper }

-- the record with another price
abbrev pub with_price : Record → ℕ → Record
with_price r price = record r { price = price }

-- the records with other prices
abbrev pub with_prices : List Record → List ℕ → List Record
with_prices records prices = map (λ (r, price). with_price r price) (zip records prices)

-- prices for the certificate of a trace, with their bound: no greater than that of the certificate, and settled for the blocks of the width
pub record RefinesPrices (width : ℕ) (trace : Requests) (h : Header) (refinement : Refinement) : Type 0 where
  pub each_step : length refinement.prices ≡ length trace.objects
  pub last : slice_index_or refinement.prices (length trace.objects - 1) 0 ≡ 0
  pub paid : units_of h * sum refinement.prices ≤ 2 ^ 126
  pub upper : refinement.upper ≡ bound_of (eligible_of trace.objects trace.fills h) h.unit (units_of h) h.denominator refinement.prices
  pub not_greater : refinement.upper ≤ h.upper
  pub settled : AreSettled (eligible_of trace.objects trace.fills h) h.unit (units_of h) h.denominator width refinement.prices

-- a valid certificate that differs from the one that was read in its upper bound and its prices at most; the bound is no greater, and the prices are settled for the blocks of the width
pub record IsRefinement (width : ℕ) (trace : Requests) (h : Header) (records : List Record) (made : Header) (refined : List Record) : Type 0 where
  pub prices : List ℕ
  pub each_step : length prices ≡ length records
  pub header_is : made ≡ with_upper h made.upper
  pub records_are : refined ≡ with_prices records prices
  pub valid : IsValid trace.objects trace.fills made refined
  pub bounds : BoundsEveryPolicy trace.objects trace.fills made
  pub not_greater : made.upper ≤ h.upper
  pub settled : AreSettled (eligible_of trace.objects trace.fills h) h.unit (units_of h) h.denominator width prices

-- the yes that a check says of the certificate for the trace
abbrev pub verdict_on : Requests → Header → Verdict
verdict_on trace h = record { header = h; objects = length (objects_of trace.objects) }

-- the certificate and the report are the texts of a refinement of the certificate that was read
pub record AreRefinedTexts (format : Format) (width : ℕ) (trace : Requests) (notes : Notes) (h : Header) (records : List Record) (cert report : List ℕ) : Type 0 where
  pub made : Header
  pub refined : List Record
  pub refinement : IsRefinement width trace h records made refined
  pub cert_is : cert ≡ cert_text made refined
  pub report_is : report ≡ refined_report (counting_of format h trace notes.noted) h.upper (verdict_on trace made) notes.dropped

-- all that the two sources had left was read, a trace and the text of a valid certificate of it, if their bytes are known
pub record IsRefinable (format : Format) (source cert : Device) (trace : Requests) (notes : Notes)
    (h : Header) (records : List Record) : Type 0 where
  pub loaded : IsLoaded format source trace notes
  pub valid : IsValid trace.objects trace.fills h records
  pub text : IfSome cert.before (λ text. text ≡ cert_text h records)
  pub nothing_left : IfSome cert.before (λ text. cert.after ≡ Some [])

-- the certificate and the report of a refinement of all that the sources had left
pub record IsRefined (format : Format) (width : ℕ) (source cert : Device) (made report : List ℕ) : Type 0 where
  pub requests : Requests
  pub notes : Notes
  pub header : Header
  pub records : List Record
  pub read : IsRefinable format source cert requests notes header records
  pub texts : AreRefinedTexts format width requests notes header records made report

-- a check has kept a certificate that can be refined, and what is told beside the trace
abbrev pub IsKept : Format → Device → Device → Checked → Notes → Type 0
IsKept format source cert kept notes =
    IsRefinable format source cert kept.trace notes kept.verdict.header kept.records × (kept.verdict ≡ verdict_on kept.trace kept.verdict.header)
