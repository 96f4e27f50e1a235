-- A certificate that is made of a trace passes its check against the lines of the trace.
use Rattle.std.proofs.Common.{◌≡◌, ◌∙◌, ℕ, sym, ap, subst, refl, arith, inl, inr, List, Some, None}
use Rattle.std.specs.declared.option.Option.{Option}
use Rattle.std.specs.Option.{is_some}
use Rattle.std.proofs.lemmas.Bool.{false≢true}
use Rattle.bound_io.specs.Causes.{HasNewFault}
use Rattle.bound_io.specs.Devices.{device}
use Rattle.cache_model.specs.declared.objects.Object.{Object}
use Rattle.cache_rules.specs.Stored.{Requests as Trail, all_count}
use Rattle.cache_model.specs.Certificates.{IsValid}
use Rattle.trace_any.specs.declared.fault.TraceFault.TheVariants as trace
use Rattle.trace_any.specs.Readings.{Reading, full_limits, reading, webcache_form}
use Rattle.cert_checker.specs.Walks.{Event, walk}
use Rattle.cert_checker.specs.Walks as walks
use Rattle.cert_checker.proofs.Walked.{passing_is_valid_lem}
use Rattle.demo_trace.specs.Laws.{read_whole}
use Rattle.bound_report.specs.declared.demo.PolicyReplays.{PolicyReplays}
use Rattle.bound_report.specs.Demos.{demo_text}
use Rattle.bound_report.specs.declared.refusal.LimitName.TheVariants.{Requests, TraceBytes, PassRequests, PassBytes, PassObjects, Denominator}
use Rattle.bound_report.specs.declared.refusal.Refusal.{Refusal}
use Rattle.bound_report.specs.declared.refusal.Refusal.TheVariants as refusal
use Rattle.bound_words.specs.declared.plans.BoundSettings.{BoundSettings}
use Rattle.bound_words.specs.declared.plans.DrawSettings.{DrawSettings}
use Rattle.bound_run.specs.Demos.{AreReplays, IsDemoText, demo_facts, trace_drawn}
use Rattle.bound_run.specs.Readings.{IsCertified}
use Rattle.bound_run.specs.BoundsMade.{AreTexts, IsMade}
use Rattle.bound_run.specs.Refusals.{RefusesCheck}
use Rattle.freshness.specs.Seen.{nothing_noted}
use Rattle.run_counts.specs.Countings.{counting_of}
use Rattle.bound_run.specs.Reports.{bounds_report}

-- a count of faults that stays at 0 has no new one
no_fault : HasNewFault 0 0 → ⊥
no_fault (inl less) = omega (arith, less)
no_fault (inr full) = omega (arith, full)

module _ (lines text : List ℕ) (lines_after text_after : Option (List ℕ)) (good : (reading webcache_form full_limits lines).refused ≡ None) (certified : IsCertified webcache_form lines text) where
  -- the walk has no event
  no_event : (event : Event) → walk (reading webcache_form full_limits lines) text ≡ Some event → ⊥
  no_event event is =
      let passes = (passing_is_valid_lem (reading webcache_form full_limits lines) text good).1 (certified.header, certified.records, certified.text_is, certified.valid) in
      false≢true (ap is_some (sym passes ∙ is))

  -- a check of a valid certificate over sources in memory is refused only if memory runs out
  pub only_memory : (why : Refusal) → RefusesCheck webcache_form (device (Some lines) lines_after 0 0) (device (Some text) text_after 0 0) why → why ≡ refusal.NoMemory
  only_memory (refusal.Invalid line kind) e = absurd (no_event (walks.Invalid line kind) e.0)
  only_memory (refusal.BadLine line kind) e = absurd (no_event (walks.Refused (trace.BadLine line kind)) e.0)
  only_memory (refusal.Limit Requests) e = absurd (no_event (walks.Refused trace.TooManyRequests) e.0)
  only_memory (refusal.Limit TraceBytes) e = absurd (no_event (walks.Refused trace.InputTooLong) e.0)
  only_memory (refusal.Limit Denominator) e = absurd e
  only_memory (refusal.Limit PassRequests) e = absurd e
  only_memory (refusal.Limit PassBytes) e = absurd e
  only_memory (refusal.Limit PassObjects) e = absurd e
  only_memory (refusal.PolicyMemory policy capacity) e = absurd e
  only_memory refusal.TraceFault e = absurd (no_fault e)
  only_memory refusal.CertFault e = absurd (no_fault e)
  only_memory (refusal.Unequal first other) e = absurd e
  only_memory refusal.MadeFault e = absurd e
  only_memory (refusal.NotFlag line) e = absurd e
  only_memory (refusal.FlagCount flags requests) e = absurd e
  only_memory (refusal.Impossible cause capacity) e = absurd e
  only_memory (refusal.Words place kind) e = absurd e
  only_memory refusal.NoMemory e = refl

-- the text of a demo, from its parts
pub shown_by : (drawing : DrawSettings) (asked : BoundSettings) (trace : Trail) (cert report text : List ℕ) (replays : PolicyReplays) → trace ≡ trace_drawn drawing
    → AreTexts webcache_form asked trace (record { dropped = 0; noted = nothing_noted }) cert report → AreReplays asked.terms.capacity trace replays → text ≡ demo_text (demo_facts drawing asked) report replays → IsDemoText drawing asked text
shown_by drawing asked trace cert report text replays drawn texts replayed is = record {
  price = texts.price;
  header = texts.header;
  records = texts.records;
  made = subst (λ xs. IsMade asked xs texts.price texts.header texts.records) drawn texts.made;
  replays = replays;
  replayed = subst (λ xs. AreReplays asked.terms.capacity xs replays) drawn replayed;
  text_is = is ∙ (ap (λ r. demo_text (demo_facts drawing asked) r replays) texts.report_is ∙ ap (λ xs. demo_text (demo_facts drawing asked) (bounds_report (counting_of webcache_form texts.header xs nothing_noted) asked xs 0 texts.price texts.header texts.records) replays) drawn);
}

-- what is made of a trace is certified by its lines
pub certified_by_texts : (asked : BoundSettings) (requests : List Object) (lines cert report : List ℕ) → reading webcache_form full_limits lines ≡ read_whole requests → AreTexts webcache_form asked (all_count requests) (record { dropped = 0; noted = nothing_noted }) cert report → IsCertified webcache_form lines cert
certified_by_texts asked requests lines cert report read texts =
    record { header = texts.header; records = texts.records; text_is = texts.cert_is; valid = subst (λ (r : Reading). IsValid r.requests r.fills texts.header texts.records) (sym read) texts.made.valid }
