-- The headline: what is known of the numbers that a run printed, in the words of the trace and of contents alone.
use Rattle.std.specs.Prelude.{◌≡◌, ◌↔◌, ℕ, ◌*◌, ◌<◌, ◌≤◌, Bool, false, IsTrue, IfSome, List, [], length, All, Result, Ok, Err}
use Rattle.std.specs.Io.KnownBytes.{Appends}
use Rattle.bound_io.specs.Devices.{Device}
use Rattle.cache_rules.specs.Stored.{Requests}
use Rattle.cache_model.specs.declared.certificates.Header.{Header}
use Rattle.cache_model.specs.declared.certificates.Record.{Record}
use Rattle.cache_model.specs.Certificates.{IsCertificate, IsValid, eligible_of, flow_of, keeps_of, prices_of, units_of, upper_of}
use Rattle.cache_model.specs.Claim.{IsAllowed, marked, score, terms_of, BoundsEveryPolicy, contents_of}
use Rattle.cache_model.specs.Objects.{objects_of}
use Rattle.cache_model.specs.Texts.{cert_text}
use Rattle.constant_price.specs.Constants.{constant_prices}
use Rattle.bound_terms.specs.declared.modes.Mode.{Mode}
use Rattle.bound_terms.specs.declared.modes.Mode.TheVariants.{Constant}
use Rattle.cache_model.specs.Units.{HasWholeCosts}
use Rattle.cache_model.specs.Intervals.{bound_of}
use Rattle.cert_checker.specs.declared.verdict.Verdict.{Verdict}
use Rattle.trace_any.specs.declared.format.Format.{Format}
use Rattle.freshness.specs.Seen.{nothing_noted}
use Rattle.trace_any.specs.Readers.{Notes}
use Rattle.trace_any.specs.Readings.{webcache_form}
use Rattle.run_counts.specs.Countings.{counting_of}
use Rattle.bound_words.specs.declared.plans.BoundSettings.{BoundSettings}
use Rattle.bound_words.specs.declared.plans.DrawSettings.{DrawSettings}
use Rattle.bound_words.specs.declared.plans.ReplaySettings.{ReplaySettings}
use Rattle.bound_words.specs.declared.plans.SweepSettings.{SweepSettings}
use Rattle.bound_words.specs.declared.plans.Plan.{Plan}
use Rattle.bound_words.specs.declared.words.WordFault.{WordFault}
use Rattle.bound_report.specs.declared.demo.PolicyReplays.{PolicyReplays}
use Rattle.bound_report.specs.Demos.{demo_text}
use Rattle.bound_run.specs.Demos.{AreReplays, demo_facts, trace_drawn}
use Rattle.capacity_curve.specs.declared.points.CurveTerms.{CurveTerms}
use Rattle.bound_run.specs.CapacityCurves.{IsCapacityCurveText}
use Rattle.bound_run.specs.Curves.{IsCurveText}
use Rattle.trace_any.specs.Loads.{IsLoaded}
use Rattle.hit_flags.specs.Claims.{AreFlags}
use Rattle.judge_laws.specs.Flags.{HitsFlagged, is_flagged}
use Rattle.hit_judge.specs.Possible.{is_stale}
use Rattle.cache_model.specs.Written.{written_bytes}
use Rattle.write_laws.specs.Claims.{HitsAsCounted, HitsExactly}
use Rattle.cache_model.specs.declared.objects.Object.{Object}
use Rattle.cache_model.specs.declared.objects.Objective.TheVariants.{Object as Hits, Bytes}
use Rattle.bound_run.specs.Judgements.{claimed_by, judged_report, written_for}
use Rattle.bound_words.specs.declared.plans.JudgeSettings.{JudgeSettings}
use Rattle.bound_run.specs.BoundsMade.{is_unwindowed}
use Rattle.bound_run.specs.Refined.{IsRefinement, verdict_on}
use Rattle.bound_run.specs.Replays.{IsReplayText, IsWithinBounds}
use Rattle.bound_run.specs.Reports.{bounds_report, refined_report, verdict_report}
use Rattle.policy_model.specs.declared.names.PolicyName.{PolicyName}
use Rattle.bound_run.specs.Sweeps.{IsSweepText, names_of}
use Rattle.bound_run.specs.Upgrades.{IsUpgraded}
use Rattle.ttl_runs.specs.Shown.{ShowsBoundsWithTtl}
use Rattle.bound_run.specs.Run.{Devices}
use Rattle.bound_words.specs.declared.plans.Settings.{Settings}
use Rattle.bound_words.specs.declared.plans.Settings.TheVariants.{Bounds, TtlBounds, Check, Replay, Curve, CapacityCurve, Sweep, Judge, Demo, Upgrade, Refine}
use Rattle.bound_words.specs.Capacities.{capacities_in}
use Rattle.bound_words.specs.Plans.{settings_of}

-- what the line flow and the form exact say: no prices over its unit and any denominator have a bound below the flow, and in the form exact prices and flows have the upper bound as their value
pub record AreValues (trace : Requests) (h : Header) (records : List Record) : Type 0 where
  pub flow : (e : ℕ) (prices : List ℕ) → e * h.flow ≤ h.denominator * bound_of (eligible_of trace.objects trace.fills h) h.unit (units_of h) e prices
  pub equal_values : IsTrue h.exact → (upper_of trace.objects trace.fills h records ≡ h.upper) × (flow_of trace.objects trace.fills h records ≡ h.upper)

-- which form bounds have: with one window for all steps it is exact if no cost is rounded, and if all sizes are equal; in that last case both bounds are one number
pub record HasForm (asked : BoundSettings) (trace : Requests) (h : Header) : Type 0 where
  pub exact : IsTrue h.exact ↔ (IsTrue (is_unwindowed asked.mode (length trace.objects)) × HasWholeCosts (eligible_of trace.objects trace.fills h) h.unit h.denominator)
  pub equal_sizes : (size : ℕ) → IsTrue (is_unwindowed asked.mode (length trace.objects)) → All (λ i. i.size ≡ size) (eligible_of trace.objects trace.fills h)
      → IsTrue h.exact × (h.upper ≡ h.denominator * h.lower)

-- header and records are a certificate in range, with a record for each request, and its bounds are true of the trace: no allowed contents score more than the upper one, the keeps are allowed contents with the lower one as their score, and its flow and its form are as they say
pub record AreTrueBounds (trace : Requests) (h : Header) (records : List Record) : Type 0 where
  pub certificate : IsCertificate h records
  pub requests : h.requests ≡ length trace.objects
  pub upper : BoundsEveryPolicy trace.objects trace.fills h
  pub schedule : IsAllowed h.capacity trace.objects (contents_of trace.objects (keeps_of records))
  pub lower : score (terms_of h trace.fills) trace.objects (contents_of trace.objects (keeps_of records)) ≡ h.lower
  pub values : AreValues trace h records

-- in mode constant the price that is printed is that of every step but the last
abbrev pub IsPriceOf : Mode → ℕ → ℕ → List Record → Type 0
IsPriceOf Constant price steps records = prices_of records ≡ constant_prices price steps
IsPriceOf mode price steps records = Unit {0}

-- bounds printed and certified true bounds at the capacity, of the requests that count from the warm-up on, for the objective that was asked for
pub record ShowsBounds (format : Format) (asked : BoundSettings) (trace : Requests) (notes : Notes) (report made : Device) : Type 0 where
  pub header : Header
  pub records : List Record
  pub price : ℕ
  pub printed : Appends report.before report.after (bounds_report (counting_of format header trace notes.noted) asked trace notes.dropped price header records)
  pub certified : Appends made.before made.after (cert_text header records)
  pub terms : terms_of header trace.fills ≡ marked asked.terms trace.fills
  pub version : header.version ≡ asked.version
  pub priced : IsPriceOf asked.mode price (length trace.objects) records
  pub bounds : AreTrueBounds trace header records
  pub form : HasForm asked trace header

-- a check printed what the certificate states, which is the text of true bounds, whatever bytes it was given
pub record ShowsCheck (format : Format) (trace : Requests) (notes : Notes) (cert report : Device) : Type 0 where
  pub verdict : Verdict
  pub records : List Record
  pub printed : Appends report.before report.after (verdict_report (counting_of format verdict.header trace notes.noted) verdict notes.dropped)
  pub certified : IfSome cert.before (λ text. text ≡ cert_text verdict.header records)
  pub objects : verdict.objects ≡ length (objects_of trace.objects)
  pub bounds : AreTrueBounds trace verdict.header records

-- a replay printed the hits of its rule's run, which no valid certificate of its capacity and no longer warm-up is below, or which requests hit
pub record ShowsReplay (format : Format) (r : ReplaySettings) (trace : Requests) (notes : Notes) (report : Device) : Type 0 where
  pub text : List ℕ
  pub printed : Appends report.before report.after text
  pub replay : IsReplayText format r trace notes text

-- a curve printed LRU's hits at every number of slots
pub record ShowsCurve (format : Format) (trace : Requests) (notes : Notes) (report : Device) : Type 0 where
  pub text : List ℕ
  pub printed : Appends report.before report.after text
  pub curve : IsCurveText format trace notes text

-- a curve over capacities printed at each LRU's hits, and a bound that no policy passes
pub record ShowsCapacityCurve (format : Format) (asked : CurveTerms) (capacities : List ℕ) (trace : Requests) (notes : Notes) (report : Device) : Type 0 where
  pub text : List ℕ
  pub printed : Appends report.before report.after text
  pub curve : IsCapacityCurveText format asked capacities trace notes text

-- a sweep printed bounds at the capacities, of hits and of their bytes, which no contents pass that let objects in no later than the delay, and what these policies count there, which is within them
pub record ShowsSweep (format : Format) (asked : SweepSettings) (capacities : List ℕ) (policies : List PolicyName) (source report : Device) : Type 0 where
  pub text : List ℕ
  pub printed : Appends report.before report.after text
  pub sweep : IsSweepText format asked capacities policies source text

-- no allowed contents that hit at the flags, and at no other request that counts, write fewer bytes than is said of them; and some that hit exactly there write just these
pub record HasLeastWrites (asked : JudgeSettings) (trace : Requests) (flags : List Bool) : Type 0 where
  pub none_fewer : (contents : List (List Object)) → IsAllowed asked.capacity trace.objects contents → HitsAsCounted asked.warmup trace.fills trace.objects contents flags
      → written_for asked trace flags ≤ written_bytes asked.warmup trace.fills trace.objects contents
  pub some_just : (contents : List (List Object)) × IsAllowed asked.capacity trace.objects contents × HitsExactly trace.objects contents flags
      × (written_bytes asked.warmup trace.fills trace.objects contents ≡ written_for asked trace flags)

-- a judgement printed the hits that the flags claim: some allowed contents hit at each flagged request, of which none is stale, and no valid certificate of the capacity and no longer warm-up is below the claim; if it printed written bytes, they are the least
pub record ShowsJudgement (format : Format) (asked : JudgeSettings) (trace : Requests) (notes : Notes) (hits report : Device) : Type 0 where
  pub flags : List Bool
  pub flags_are : AreFlags hits flags
  pub as_many : length flags ≡ length trace.objects
  pub printed : Appends report.before report.after (judged_report format asked trace notes flags)
  pub possible : (contents : List (List Object)) × IsAllowed asked.capacity trace.objects contents × HitsFlagged trace.objects contents flags
  pub fresh : (t : ℕ) → t < length trace.objects → IsTrue (is_flagged flags t) → is_stale notes.noted.stale t ≡ false
  pub bounded : IsWithinBounds asked.capacity asked.warmup trace (claimed_by Hits asked trace flags) (claimed_by Bytes asked trace flags)
  pub written : HasLeastWrites asked trace flags

-- a demo printed true bounds of the trace that it drew, and the hits of each rule's run on it, which no valid certificate is below
pub record ShowsDemo (drawing : DrawSettings) (asked : BoundSettings) (report : Device) : Type 0 where
  pub header : Header
  pub records : List Record
  pub price : ℕ
  pub replays : PolicyReplays
  pub printed : Appends report.before report.after (demo_text (demo_facts drawing asked) (bounds_report (counting_of webcache_form header (trace_drawn drawing) nothing_noted) asked (trace_drawn drawing) 0 price header records) replays)
  pub terms : terms_of header [] ≡ marked asked.terms []
  pub priced : IsPriceOf asked.mode price (length (trace_drawn drawing).objects) records
  pub bounds : AreTrueBounds (trace_drawn drawing) header records
  pub form : HasForm asked (trace_drawn drawing) header
  pub replayed : AreReplays asked.terms.capacity (trace_drawn drawing) replays

-- an upgrade wrote the certificate that it read in the second version
pub record ShowsUpgrade (source report made : Device) : Type 0 where
  pub cert : List ℕ
  pub text : List ℕ
  pub certified : Appends made.before made.after cert
  pub printed : Appends report.before report.after text
  pub upgraded : IsUpgraded source cert text

-- a refinement printed true bounds, whose upper one is no greater than that of the certificate that was read, and certified them
pub record ShowsRefinement (format : Format) (width : ℕ) (trace : Requests) (notes : Notes) (cert report made : Device) : Type 0 where
  pub header : Header
  pub records : List Record
  pub refined : Header
  pub refined_records : List Record
  pub read : IfSome cert.before (λ text. text ≡ cert_text header records)
  pub valid : IsValid trace.objects trace.fills header records
  pub certified : Appends made.before made.after (cert_text refined refined_records)
  pub printed : Appends report.before report.after (refined_report (counting_of format header trace notes.noted) header.upper (verdict_on trace refined) notes.dropped)
  pub refinement : IsRefinement width trace header records refined refined_records
  pub bounds : AreTrueBounds trace refined refined_records

-- what the other commands show
abbrev pub ShowsElse : Settings → Devices → Type 0
ShowsElse (TtlBounds format ttl asked) d = (trace : Requests) × (notes : Notes) × IsLoaded format d.trace trace notes × ShowsBoundsWithTtl format ttl asked trace notes d.trace d.report d.made
ShowsElse (Replay format r) d = (trace : Requests) × (notes : Notes) × IsLoaded format d.trace trace notes × ShowsReplay format r trace notes d.report
ShowsElse (Curve format) d = (trace : Requests) × (notes : Notes) × IsLoaded format d.trace trace notes × ShowsCurve format trace notes d.report
ShowsElse (CapacityCurve format capacities asked) d =
    (trace : Requests) × (notes : Notes) × IsLoaded format d.trace trace notes × ShowsCapacityCurve format asked (capacities_in capacities) trace notes d.report
ShowsElse (Sweep format capacities policies asked) d = ShowsSweep format asked (capacities_in capacities) (names_of policies) d.trace d.report
ShowsElse (Judge format asked) d = (trace : Requests) × (notes : Notes) × IsLoaded format d.trace trace notes × ShowsJudgement format asked trace notes d.beside d.report
ShowsElse (Demo drawing asked) d = ShowsDemo drawing asked d.report
ShowsElse Upgrade d = ShowsUpgrade d.beside d.report d.made
ShowsElse (Refine format width) d = (trace : Requests) × (notes : Notes) × IsLoaded format d.trace trace notes × ShowsRefinement format width trace notes d.beside d.report d.made
ShowsElse settings d = ⊥

-- what a command shows; of bounds and a check, that all that the trace source had left was read, and the numbers that were printed are true of it
abbrev pub Shows : Settings → Devices → Type 0
Shows (Bounds format asked) d = (trace : Requests) × (notes : Notes) × IsLoaded format d.trace trace notes × ShowsBounds format asked trace notes d.report d.made
Shows (Check format) d = (trace : Requests) × (notes : Notes) × IsLoaded format d.trace trace notes × ShowsCheck format trace notes d.beside d.report
Shows settings d = ShowsElse settings d

-- Whatever trace is read and whatever the capacity, no allowed sequence of cache contents scores more than the printed
-- upper bound, the certified schedule is allowed and scores exactly the lower bound, exact-form prices and flows have
-- equal value, equal sizes make both bounds one under an unwindowed flow, and the checker's yes on any file implies the
-- bounds it prints.
abbrev pub Headline : Result Plan WordFault → Devices → Type 0
Headline (Ok plan) d = Shows (settings_of plan) d
Headline (Err fault) d = ⊥
