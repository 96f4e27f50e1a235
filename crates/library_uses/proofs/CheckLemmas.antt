-- What a check says, in the words of the texts that the two sources had.
use Rattle.std.proofs.Common.{◌≡◌, ◌∙◌, ℕ, arith, sym, ap, subst, inl, inr, List, Some, None, IfSome}
use Rattle.std.specs.declared.option.Option.{Option}
use Rattle.std.specs.Option.{is_some, unwrap_or}
use Rattle.std.proofs.lemmas.Bool.{false≢true}
use Rattle.bound_io.specs.Causes.{HasNewFault}
use Rattle.bound_io.specs.Devices.{Device}
use Rattle.cache_model.specs.declared.certificates.Header.{Header}
use Rattle.cache_model.specs.declared.certificates.Record.{Record}
use Rattle.cache_model.specs.Certificates.{IsValid}
use Rattle.cache_model.specs.Claim.{BoundsEveryPolicy}
use Rattle.cache_model.specs.Texts.{cert_text}
use Rattle.trace_any.specs.declared.fault.TraceFault.TheVariants as refusal
use Rattle.trace_any.specs.Readings.{webcache_form}
use Rattle.trace_any.specs.Readers.{IsWhole}
use Rattle.cert_format.specs.Readings.{reading, whole}
use Rattle.cert_format.proofs.Wholes.{read_written}
use Rattle.cert_checker.specs.declared.verdict.Verdict.{Verdict}
use Rattle.cert_checker.specs.declared.walking.CheckFault.{CheckFault}
use Rattle.cert_checker.specs.declared.walking.CheckFault.TheVariants as fault
use Rattle.cert_checker.specs.Walks.{Event, Invalid, Refused, walk}
use Rattle.cert_checker.specs.Checks.{IsEvent}
use Rattle.cert_checker.specs.Whole.{Fails, Passes, first_inputs, last_inputs}
use Rattle.cert_checker.proofs.Walked.{passing_is_valid_lem}
use Rattle.library_uses.specs.Uses.{IsCertified, IsUncertified, StopsAt, reading_of}

-- bytes that are read as a whole certificate are its text
text_of_whole : (bytes : List ℕ) (h : Header) (records : List Record) → reading bytes ≡ whole h records → bytes ≡ cert_text h records
text_of_whole bytes h records is =
    let (g, others, spelled) = read_written bytes (ap (λ r. r.fault) is) in
    let same : whole g others ≡ whole h records = sym spelled.read ∙ is in
    let heads : g ≡ h = ap (λ r. unwrap_or r.header h) same in
    let all : others ≡ records = ap (λ r. r.records) same in
    spelled.text ∙ ap (λ x. cert_text x others) heads ∙ ap (cert_text h) all

-- a certificate that passes is valid for the trace, and has the text
pub passed_text : {given cert : Device} {verdict : Verdict} {dropped : ℕ} (trace text : List ℕ) → Passes webcache_form given cert verdict dropped
    → given.before ≡ Some trace → cert.before ≡ Some text → IsCertified trace text verdict.header
passed_text {given} {cert} {verdict} {dropped} trace text passes trace_is text_is =
    let passed = passes.passed in
    let h = verdict.header in
    let read : IsWhole (reading_of trace) passed.requests passes.reader.dropped
    = subst (λ before. IfSome before (λ bytes. IsWhole (reading_of bytes) passed.requests passes.reader.dropped)) trace_is passed.trace in
    let spelled : reading text ≡ whole h passed.records = subst (λ before. IfSome before (λ bytes. reading bytes ≡ whole h passed.records)) text_is passed.certificate in
    record {
      none_refused = read.stop;
      records = passed.records;
      text_is = text_of_whole text h passed.records spelled;
      valid = subst (λ objects. IsValid objects (reading_of trace).fills h passed.records) (sym read.requests) (subst (λ fills. IsValid passed.requests.objects fills h passed.records) (sym read.marks) passed.yes.valid);
      bounds = subst (λ objects. BoundsEveryPolicy objects (reading_of trace).fills h) (sym read.requests) (subst (λ fills. BoundsEveryPolicy passed.requests.objects fills h) (sym read.marks) passed.yes.bounds_every_policy);
    }

-- a count of faults that is 0 has no new one
pub none_new : (before now : ℕ) → now ≡ 0 → HasNewFault before now → ⊥
none_new before now none (inl more) = omega (arith, none, more)
none_new before now none (inr most) = omega (arith, none, most)

-- an event of the walk over what the sources had is one over the texts
walked_text : (given cert : Option (List ℕ)) (trace text : List ℕ) (event : Option Event) → given ≡ Some trace → cert ≡ Some text
    → IfSome given (λ bytes. IfSome cert (λ lines. walk (reading_of bytes) lines ≡ event)) → walk (reading_of trace) text ≡ event
walked_text given cert trace text event trace_is text_is = λ is.
    subst (λ before. IfSome before (λ lines. walk (reading_of trace) lines ≡ event)) text_is (subst (λ before. IfSome before (λ bytes. IfSome cert (λ lines. walk (reading_of bytes) lines ≡ event))) trace_is is)

-- texts with an event are not those of a trace and of a certificate that is valid for it
uncertified : (trace text : List ℕ) (event : Event) → walk (reading_of trace) text ≡ Some event → (h : Header) → IsCertified trace text h → ⊥
uncertified trace text event stops h is =
    let passes : walk (reading_of trace) text ≡ None = (passing_is_valid_lem (reading_of trace) text is.none_refused).1 (h, is.records, is.text_is, is.valid) in
    false≢true (ap is_some (sym passes ∙ stops))

-- so what stops a check says that there is none
stopped_text : (trace text : List ℕ) (why : CheckFault) → StopsAt trace text why → IsUncertified trace text why
stopped_text trace text (fault.Invalid line kind) stops = uncertified trace text (Invalid line kind) stops
stopped_text trace text (fault.Trace why) stops = uncertified trace text (Refused why) stops
stopped_text trace text fault.CertReadFault stops = absurd stops
stopped_text trace text fault.NoMemory stops = tt

-- what stops a check is an event of the texts, if no read failed, and they are not those of a valid certificate and its trace
pub failed_text : {given cert : Device} {why : CheckFault} (trace text : List ℕ) → Fails webcache_form given cert why
    → given.before ≡ Some trace → cert.before ≡ Some text → given.faults_after ≡ 0 → cert.faults_after ≡ 0 → StopsAt trace text why × IsUncertified trace text why
failed_text {given} {cert} {why} trace text fails trace_is text_is calm_trace calm_cert =
    let stops = by why fails.event in
    (stops, stopped_text trace text why stops)
  where
    walked : (event : Event) → IfSome given.before (λ bytes. IfSome cert.before (λ lines. walk (reading_of bytes) lines ≡ Some event)) → walk (reading_of trace) text ≡ Some event
    walked event = walked_text given.before cert.before trace text (Some event) trace_is text_is

    by : (cause : CheckFault) → IsEvent (first_inputs webcache_form given cert) (last_inputs fails.reader fails.records given cert) cause → StopsAt trace text cause
    by (fault.Invalid line kind) event = walked (Invalid line kind) event.0
    by (fault.Trace (refusal.BadLine line kind)) event = walked (Refused (refusal.BadLine line kind)) event.0
    by (fault.Trace refusal.InputTooLong) event = walked (Refused refusal.InputTooLong) event.0
    by (fault.Trace refusal.TooManyRequests) event = walked (Refused refusal.TooManyRequests) event.0
    by (fault.Trace refusal.ReadFault) event = absurd (none_new _ _ calm_trace event)
    by (fault.Trace refusal.NoMemory) event = absurd event
    by fault.CertReadFault event = none_new _ _ calm_cert event
    by fault.NoMemory event = tt
