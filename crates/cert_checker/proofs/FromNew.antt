-- A check by readers of which no call was made.
use Rattle.std.proofs.Common.{inr, ◌≡◌, ◌∙◌, ℕ, ap, refl, sym, subst, Bool, true, false, cond, List, length, Option, Some, None, Result, Ok, Err}
use Rattle.std.specs.Prelude.{count_by}
use Rattle.std.specs.List.{range_with_len}
use Rattle.bound_io.specs.Devices.{Device}
use Rattle.cache_model.specs.Claim.{counts_past}
use Rattle.cache_model.specs.Objects.{numbers_of}
use Rattle.cache_rules.specs.Stored.{Making, Requests}
use Rattle.cache_model.specs.declared.certificates.Record.{Record}
use Rattle.trace_any.specs.declared.format.Format.{Format}
use Rattle.freshness.specs.Seen.{Staleness}
use Rattle.freshness.specs.Stale.{can_end}
use Rattle.trace_any.specs.Readings.{full_limits, has_marks}
use Rattle.trace_any.specs.Readers as requests
use Rattle.cert_format.specs.Readers as lines
use Rattle.cert_format.specs.Lines.{IsTaken}
use Rattle.cert_checker.specs.declared.verdict.Verdict.{Verdict}
use Rattle.cert_checker.specs.declared.walking.CheckFault.{CheckFault}
use Rattle.cert_checker.specs.declared.walking.CheckFault.TheVariants as fault
use Rattle.cert_checker.specs.Checks.{Inputs, IsCalmBut, IsEvent, IsNear, inputs, trace_source, cert_source}
use Rattle.cert_checker.specs.Counting.{PassesCounted}
use Rattle.trace_any.specs.Counts.{counted_in, is_stale, own_marks, stale_in}
use Rattle.cert_checker.specs.Keeping.{HasKept, IsCheckEnd}
use Rattle.cert_checker.specs.Whole.{Ends, Fails, Passes, first_inputs, last_inputs}
use Rattle.cert_checker.proofs.Nearness.{near_closed}

-- the inputs with these readers
abbrev with_readers : Inputs → requests.Reader → lines.Reader → Inputs
with_readers now reader cert = inputs reader now.trace now.trace_faults cert now.certificate now.certificate_faults

module _ (start end : Inputs) (first : start.reader ≡ requests.fresh start.reader.format full_limits) (new : start.cert ≡ lines.fresh) where
  -- what holds from where the check began holds from new readers on
  from_new : (P : Inputs → Type 0) → P start → P (first_inputs start.reader.format (trace_source start end) (cert_source start end))
  from_new P p =
      subst (λ r. P (with_readers start r lines.fresh)) first (subst (λ c. P (with_readers start start.reader c)) new p)

  pub ends_new : (has : Making → List Record → Type 0) (verdict : Verdict) (dropped : ℕ) → end.reader.dropped ≡ dropped → IsCheckEnd has start end (Ok verdict)
      → Ends has start.reader.format (trace_source start end) (cert_source start end) verdict dropped end.reader.seen.noted
  ends_new has verdict dropped same ended = record {
    reader = end.reader;
    records = end.cert;
    dropped_lines = same;
    noted_are = refl;
    ended = from_new (λ from. IsCheckEnd has from end (Ok verdict)) ended;
  }

  pub fails_new : (has : Making → List Record → Type 0) (why : CheckFault) → IsTaken start.cert.lines end.cert.lines start.certificate end.certificate → IsCheckEnd has start end (Err why) → IsCalmBut start end why
      → Fails start.reader.format (trace_source start end) (cert_source start end) why
  fails_new has why taken ended calm = record {
    reader = end.reader;
    records = end.cert;
    event = from_new (λ from. IsEvent from end why) ended.event;
    near = from_new (λ from. IsNear from end why) (near_closed has start end (Err why) new taken ended);
    calm = from_new (λ from. IsCalmBut from end why) calm;
  }

-- out of memory before the first read says nothing
pub fails_memory : (format : Format) (trace cert : Device) → trace.faults_after ≡ trace.faults_before → cert.faults_after ≡ cert.faults_before → Fails format trace cert fault.NoMemory
fails_memory format trace cert same_trace same_cert = record { reader = requests.fresh format full_limits; records = lines.fresh; event = tt; near = tt; calm = (inr same_trace, inr same_cert) }

-- a yes of what a keeper has is a yes
abbrev pub passes_new : (has : Making → List Record → Type 0) (format : Format) (trace cert : Device) (verdict : Verdict) (dropped : ℕ) (noted : Staleness) → Ends has format trace cert verdict dropped noted → Passes format trace cert verdict dropped
passes_new has format trace cert verdict dropped noted ends = record { reader = ends.reader; records = ends.records; dropped_lines = ends.dropped_lines; passed = ends.ended.3.passed }

-- a count over the requests of a certificate is one over those of its trace
module _ {has : Making → List Record → Type 0} {format : Format} {trace cert : Device} {verdict : Verdict} {dropped : ℕ} {noted : Staleness} (ends : Ends has format trace cert verdict dropped noted) where
  abbrev passed : Passes format trace cert verdict dropped
  passed = passes_new has format trace cert verdict dropped noted ends

  abbrev requests_of : Requests
  requests_of = passed.passed.requests

  counts_all : (n : ℕ) (counted : ℕ → Bool) → n ≡ count_by counted (range_with_len 0 verdict.header.requests) → n ≡ count_by counted (numbers_of requests_of.objects)
  counts_all n counted is = is ∙ ap (λ k. count_by counted (range_with_len 0 k)) passed.passed.yes.valid.requests

  -- how many requests count, if their marks are these
  counts_marked : (n : ℕ) (marks : List Bool) → n ≡ count_by (counts_past verdict.header.warmup marks) (range_with_len 0 verdict.header.requests) → own_marks format requests_of ends.reader.seen.noted ≡ marks
      → (shown : Bool) → has_marks format.layout ≡ shown → cond shown (Some n) None ≡ counted_in format verdict.header.warmup requests_of ends.reader.seen.noted
  counts_marked n marks is own shown has =
      let counted = λ (m : List Bool). count_by (counts_past verdict.header.warmup m) (numbers_of requests_of.objects) in
      ap (λ k. cond shown (Some k) None) (counts_all n (counts_past verdict.header.warmup marks) is ∙ ap counted (sym own))
      ∙ ap (λ b. cond b (Some (counted (own_marks format requests_of ends.reader.seen.noted))) None) (sym has)

  -- no request can be stale, and the marks are those of the trace
  own_lasting : can_end format.fresh ≡ false → own_marks format requests_of ends.reader.seen.noted ≡ requests_of.fills
  own_lasting lasting = ap (λ b. cond b ends.reader.seen.noted.own requests_of.fills) lasting

  none_stale : can_end format.fresh ≡ false → None ≡ stale_in format requests_of ends.reader.seen.noted
  none_stale lasting = ap (λ b. cond b (Some (count_by (is_stale ends.reader.seen.noted) (numbers_of requests_of.objects))) None) (sym lasting)

-- a yes whose marks a keeper has counts its requests by them
pub counted_new : (format : Format) (trace cert : Device) (verdict : Verdict) (dropped counted : ℕ) (fills : List Bool) (noted : Staleness) → has_marks format.layout ≡ true → can_end format.fresh ≡ false
    → Ends (λ given records. (given.marks ≡ true) × (fills ≡ given.requests.fills)) format trace cert verdict dropped noted
    → counted ≡ count_by (counts_past verdict.header.warmup fills) (range_with_len 0 verdict.header.requests)
    → PassesCounted format trace cert (record { verdict = verdict; dropped = dropped; counted = Some counted; late = noted.late; stale = None })
counted_new format trace cert verdict dropped counted fills noted marked lasting ends is =
    let (requests, records, kept, end) = ends.ended in
    let all : HasKept (first_inputs format trace cert) (last_inputs ends.reader ends.records trace cert) (record { verdict = verdict; trace = requests; records = records }) = end in
    let marks : fills ≡ all.passed.requests.fills = kept.1 ∙ ap (λ (r : Requests). r.fills) all.trace in
    record {
      passes = passed ends;
      counted = counts_marked ends counted fills is (own_lasting ends lasting ∙ sym marks) true marked;
      late = sym (ap (λ n. n.late) ends.noted_are);
      stale = none_stale ends lasting;
    }

-- a yes of a form without marks of which no request can be stale counts none
pub uncounted_new : (has : Making → List Record → Type 0) (format : Format) (trace cert : Device) (verdict : Verdict) (dropped : ℕ) (noted : Staleness) → has_marks format.layout ≡ false → can_end format.fresh ≡ false
    → Ends has format trace cert verdict dropped noted
    → PassesCounted format trace cert (record { verdict = verdict; dropped = dropped; counted = None; late = noted.late; stale = None })
uncounted_new has format trace cert verdict dropped noted unmarked lasting ends = record {
  passes = passed ends;
  counted = ap (λ b. cond b (Some (count_by (counts_past verdict.header.warmup (own_marks format (requests_of ends) ends.reader.seen.noted)) (numbers_of (requests_of ends).objects))) None) (sym unmarked);
  late = sym (ap (λ n. n.late) ends.noted_are);
  stale = none_stale ends lasting;
}

-- a yes of a form of which requests can be stale counts by what is noted of them
pub stale_new : (has : Making → List Record → Type 0) (format : Format) (trace cert : Device) (verdict : Verdict) (dropped counted stale : ℕ) (noted : Staleness) (shown : Option ℕ) → can_end format.fresh ≡ true
    → Ends has format trace cert verdict dropped noted
    → counted ≡ count_by (counts_past verdict.header.warmup noted.own) (range_with_len 0 verdict.header.requests)
    → stale ≡ count_by (is_stale noted) (range_with_len 0 verdict.header.requests)
    → shown ≡ cond (has_marks format.layout) (Some counted) None
    → PassesCounted format trace cert (record { verdict = verdict; dropped = dropped; counted = shown; late = noted.late; stale = Some stale })
stale_new has format trace cert verdict dropped counted stale noted shown can ends counted_is stale_is shown_is =
    let own : own_marks format (requests_of ends) ends.reader.seen.noted ≡ noted.own =
    ap (λ b. cond b ends.reader.seen.noted.own (requests_of ends).fills) can ∙ ap (λ n. n.own) ends.noted_are in
    let all : stale ≡ count_by (is_stale ends.reader.seen.noted) (numbers_of (requests_of ends).objects) =
    counts_all ends stale (is_stale noted) stale_is ∙ ap (λ n. count_by (is_stale n) (numbers_of (requests_of ends).objects)) (sym ends.noted_are) in
    record {
      passes = passed ends;
      counted = shown_is ∙ counts_marked ends counted noted.own counted_is own (has_marks format.layout) refl;
      late = sym (ap (λ n. n.late) ends.noted_are);
      stale = ap (λ k. Some k) all ∙ ap (λ b. cond b (Some (count_by (is_stale ends.reader.seen.noted) (numbers_of (requests_of ends).objects))) None) (sym can);
    }
