-- What a check answers of all that two sources had left.
use Rattle.std.proofs.Common.{◌≡◌, ◌∙◌, ℕ, sym, ap, subst, List, length, Some, None, IfSome}
use Rattle.std.specs.declared.option.Option.{Option}
use Rattle.std.specs.Option.{unwrap_or}
use Rattle.bound_io.specs.Devices.{device}
use Rattle.cache_model.specs.declared.certificates.Header.{Header}
use Rattle.cache_model.specs.declared.certificates.Record.{Record}
use Rattle.cache_model.specs.Certificates.{IsValid}
use Rattle.cache_model.specs.Objects.{objects_of}
use Rattle.cache_model.specs.Texts.{cert_text}
use Rattle.cache_model.proofs.Headline.{exact_is_least}
use Rattle.cache_rules.specs.Stored.{Requests}
use Rattle.trace_any.specs.declared.fault.TraceFault.TheVariants as trace
use Rattle.trace_any.specs.declared.format.Format.{Format}
use Rattle.trace_any.specs.Readings.{full_limits}
use Rattle.trace_any.specs.Readers.{fresh, notes_of}
use Rattle.cert_format.specs.Readings.{reading, whole}
use Rattle.cert_format.proofs.Wholes.{read_written}
use Rattle.cert_checker.specs.declared.verdict.Verdict.{Verdict}
use Rattle.cert_checker.specs.declared.walking.CheckFault.{CheckFault}
use Rattle.cert_checker.specs.declared.walking.CheckFault.TheVariants as check
use Rattle.cert_checker.specs.Checks.{Inputs, IsEvent, IsNear, IsPassed}
use Rattle.cert_checker.specs.Keeping.{Checked, HasKept}
use Rattle.bound_report.specs.declared.rendering.Counting.{Counting}
use Rattle.trace_any.specs.Loads.{IsLoaded}
use Rattle.bound_run.specs.Readings.{IsAccepted, IsVerdictText}
use Rattle.run_counts.specs.Countings.{counting_of}
use Rattle.bound_run.specs.Reports.{verdict_report}
use Rattle.bound_run.specs.Refusals.{RefusesCheck}
use Rattle.bound_run.specs.Refined.{IsKept}
use Rattle.bound_run.specs.Statuses.{refusal_of_check}

-- bytes that are read as a whole certificate are its text
text_of_whole : (bytes : List ℕ) (h : Header) (records : List Record) → reading bytes ≡ whole h records → bytes ≡ cert_text h records
text_of_whole bytes h records is =
    let (g, others, spelled) = read_written bytes (ap (λ r. r.fault) is) in
    let same : whole g others ≡ whole h records = sym spelled.read ∙ is in
    let heads : g ≡ h = ap (λ r. unwrap_or r.header h) same in
    let all : others ≡ records = ap (λ r. r.records) same in
    spelled.text ∙ ap (λ x. cert_text x others) heads ∙ ap (cert_text h) all

pub texts_of_whole : (before : Option (List ℕ)) (h : Header) (records : List Record) → IfSome before (λ text. reading text ≡ whole h records) → IfSome before (λ text. text ≡ cert_text h records)
texts_of_whole None h records is = tt
texts_of_whole (Some bytes) h records is = text_of_whole bytes h records is

module _ (format : Format) (start end : Inputs) (new : start.reader ≡ fresh format full_limits) where
  same_format : start.reader.format ≡ format
  same_format = ap (λ r. r.format) new

  same_limits : start.reader.limits ≡ full_limits
  same_limits = ap (λ r. r.limits) new

  -- a yes is one over all that the sources had left
  accepted : (verdict : Verdict) → IsPassed start end verdict
      → IsAccepted format (device start.trace end.trace start.trace_faults end.trace_faults) (device start.certificate end.certificate start.certificate_faults end.certificate_faults) verdict (notes_of end.reader)
  accepted verdict passed =
      record {
        requests = passed.requests;
        records = passed.records;
        loaded = record { read = rw (same_format, same_limits) at passed.trace; noted = rw (same_format, same_limits) at passed.noted; nothing_left = passed.trace_end };
        objects = passed.yes.objects;
        valid = passed.yes.valid;
        bounds = passed.yes.bounds_every_policy;
        least = exact_is_least passed.requests.objects passed.requests.fills verdict.header passed.records passed.yes.valid;
        text = texts_of_whole start.certificate verdict.header passed.records passed.certificate;
        nothing_left = passed.certificate_end;
      }

  -- and so is the text of it
  pub said : (verdict : Verdict) (dropped : ℕ) (counting : Counting) (text : List ℕ) (passed : IsPassed start end verdict) → end.reader.dropped ≡ dropped
      → counting ≡ counting_of format verdict.header passed.requests end.reader.seen.noted → text ≡ verdict_report counting verdict dropped
      → IsVerdictText format (device start.trace end.trace start.trace_faults end.trace_faults) (device start.certificate end.certificate start.certificate_faults end.certificate_faults) text
  unfolding accepted
  said verdict dropped counting text passed same counting_is shown = record {
    verdict = verdict;
    notes = notes_of end.reader;
    accepted = accepted verdict passed;
    text_is = shown ∙ ap (λ c. verdict_report c verdict dropped) counting_is ∙ ap (verdict_report (counting_of format verdict.header passed.requests end.reader.seen.noted) verdict) (sym same);
  }

  -- so is one of what is kept
  pub kept_all : (kept : Checked) → HasKept start end kept
      → IsKept format (device start.trace end.trace start.trace_faults end.trace_faults) (device start.certificate end.certificate start.certificate_faults end.certificate_faults) kept (notes_of end.reader)
  kept_all kept has =
      let passed = has.passed in
      let loaded : IsLoaded format (device start.trace end.trace start.trace_faults end.trace_faults) passed.requests (notes_of end.reader)
      = record { read = rw (same_format, same_limits) at passed.trace; noted = rw (same_format, same_limits) at passed.noted; nothing_left = passed.trace_end } in (
        record {
          loaded = subst (λ requests. IsLoaded format (device start.trace end.trace start.trace_faults end.trace_faults) requests (notes_of end.reader)) (sym has.trace) loaded;
          valid = subst (λ (requests : Requests). IsValid requests.objects requests.fills kept.verdict.header kept.records) (sym has.trace) (subst (λ records. IsValid passed.requests.objects passed.requests.fills kept.verdict.header records) (sym has.records) passed.yes.valid);
          text = subst (λ records. IfSome start.certificate (λ text. text ≡ cert_text kept.verdict.header records)) (sym has.records) (texts_of_whole start.certificate kept.verdict.header passed.records passed.certificate);
          nothing_left = passed.certificate_end;
        },
        ap (λ n. record { header = kept.verdict.header; objects = n }) (passed.yes.objects ∙ ap (λ (requests : Requests). length (objects_of requests.objects)) (sym has.trace)),
      )

  -- and a no is the first event of the walk over it, with little read beyond its line, or what refuses the trace
  pub refused : (fault : CheckFault) → IsEvent start end fault → IsNear start end fault
      → RefusesCheck format (device start.trace end.trace start.trace_faults end.trace_faults) (device start.certificate end.certificate start.certificate_faults end.certificate_faults) (refusal_of_check fault)
  refused (check.Invalid line kind) e near = (rw (same_format, same_limits) at e.0, e.1, rw (same_format, same_limits) at near)
  refused (check.Trace (trace.BadLine line kind)) e near = (rw (same_format, same_limits) at e.0, rw (same_format, same_limits) at e.1, rw (same_format, same_limits) at near)
  refused (check.Trace trace.InputTooLong) e near = (rw (same_format, same_limits) at e.0, rw (same_format, same_limits) at e.1, rw (same_format, same_limits) at near)
  refused (check.Trace trace.TooManyRequests) e near = (rw (same_format, same_limits) at e.0, rw (same_format, same_limits) at e.1, rw (same_format, same_limits) at near)
  refused (check.Trace trace.ReadFault) e near = e
  refused (check.Trace trace.NoMemory) e near = absurd e
  refused check.CertReadFault e near = e
  refused check.NoMemory e near = tt
