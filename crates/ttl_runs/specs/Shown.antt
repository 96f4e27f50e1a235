-- What is known of the numbers that bounds with a time to live printed.
use Rattle.std.specs.Prelude.{◌≡◌, ℕ, List, length}
use Rattle.std.specs.Io.KnownBytes.{Appends}
use Rattle.bound_io.specs.Devices.{Device}
use Rattle.cache_model.specs.declared.certificates.Header.{Header}
use Rattle.cache_model.specs.declared.certificates.Record.{Record}
use Rattle.cache_model.specs.Certificates.{IsCertificate, eligible_of, keeps_of, prices_of}
use Rattle.cache_model.specs.Claim.{IsAllowed, contents_of, marked, terms_of}
use Rattle.cache_model.specs.Texts.{cert_text}
use Rattle.cache_rules.specs.Stored.{Requests}
use Rattle.constant_price.specs.Constants.{constant_prices}
use Rattle.trace_any.specs.declared.format.Format.{Format}
use Rattle.trace_any.specs.Readers.{Notes}
use Rattle.trace_times.specs.Times.{AreTimes}
use Rattle.bound_words.specs.declared.plans.BoundSettings.{BoundSettings}
use Rattle.run_counts.specs.Countings.{counting_of}
use Rattle.ttl_laws.specs.Fresh.{score_with_ttl}
use Rattle.ttl_certs.specs.Claim.{BoundsEveryPolicyWithTtl}
use Rattle.ttl_scores.specs.Written.{written_with_ttl}
use Rattle.ttl_runs.specs.Bounds.{facts_of, report_of}

-- header and records are a certificate in range, with a record for each request, and its bounds are true of the trace with this ttl: no allowed contents score more than the upper one, and the keeps are allowed contents with the lower one as their score
pub record AreTrueBoundsWithTtl (trace : Requests) (times : List ℕ) (ttl : ℕ) (h : Header) (records : List Record) : Type 0 where
  pub certificate : IsCertificate h records
  pub requests : h.requests ≡ length trace.objects
  pub upper : BoundsEveryPolicyWithTtl trace.objects trace.fills times ttl h
  pub schedule : IsAllowed h.capacity trace.objects (contents_of trace.objects (keeps_of records))
  pub lower : score_with_ttl (terms_of h trace.fills) trace.objects times ttl (contents_of trace.objects (keeps_of records)) ≡ h.lower

-- the numbers beside the header: the price is that of every step but the last, and the intervals are counted, and what the schedule writes
pub record AreNumbersBeside (trace : Requests) (times : List ℕ) (ttl price intervals written : ℕ) (h : Header) (records : List Record) : Type 0 where
  pub priced : prices_of records ≡ constant_prices price (length trace.objects)
  pub intervals_are : intervals ≡ length (eligible_of trace.objects trace.fills h)
  pub written_are : written ≡ written_with_ttl h.warmup trace.fills trace.objects times ttl (contents_of trace.objects (keeps_of records))

-- bounds with a ttl printed and certified true bounds at the capacity, of the requests that count from the warm-up on and are fresh hits, for the objective that was asked for
pub record ShowsBoundsWithTtl (format : Format) (ttl : ℕ) (asked : BoundSettings) (trace : Requests) (notes : Notes) (source report made : Device) : Type 0 where
  pub times : List ℕ
  pub header : Header
  pub records : List Record
  pub price : ℕ
  pub intervals : ℕ
  pub written : ℕ
  pub times_are : AreTimes format source.before times
  pub each : length times ≡ length trace.objects
  pub printed : Appends report.before report.after
      (report_of (counting_of format header trace notes.noted) (facts_of asked trace notes.dropped price intervals written header))
  pub certified : Appends made.before made.after (cert_text header records)
  pub terms : terms_of header trace.fills ≡ marked asked.terms trace.fills
  pub version : header.version ≡ asked.version
  pub bounds : AreTrueBoundsWithTtl trace times ttl header records
  pub numbers : AreNumbersBeside trace times ttl price intervals written header records
