-- What is answered of good inputs, if no device fails.
use Rattle.std.proofs.Common.{◌≡◌, ◌≢◌, ◌∙◌, ℕ, ◌+◌, ◌==◌, arith, nat_lt, refl, sym, ap, subst, inl, inr, ◌⊎◌, Bool, true, false, cond, List, [], ◌∷◌, ◌++◌, map, length, Ok, Err, Some, None, IfSome, Result}
use Rattle.std.specs.Prelude.{IsSome}
use Rattle.std.specs.declared.option.Option.{Option}
use Rattle.std.specs.Option.{is_some}
use Rattle.std.proofs.lemmas.Bool.{false≢true}
use Rattle.cache_model.specs.declared.objects.Object.{Object}
use Rattle.cache_rules.specs.Stored.{Requests as Trail}
use Rattle.cache_model.specs.declared.certificates.Header.{Header}
use Rattle.cache_model.specs.declared.certificates.Record.{Record}
use Rattle.cache_model.specs.Certificates.{IsValid}
use Rattle.cache_model.specs.Objects.{numbers_of}
use Rattle.cache_model.specs.Texts.{cert_text, header_len}
use Rattle.trace_any.specs.declared.fault.TraceFault.{TraceFault as FaultOfTrace}
use Rattle.trace_any.specs.declared.format.Format.{Format}
use Rattle.trace_any.specs.declared.fault.TraceFault.TheVariants as trace
use Rattle.trace_any.specs.Readings.{Reading as Trace, reading, full_limits}
use Rattle.trace_any.specs.Readers.{IsWhole}
use Rattle.bound_io.specs.Devices.{Device, HasFailed}
use Rattle.bound_report.specs.declared.refusal.LimitName.TheVariants.{Requests, TraceBytes, PassRequests, PassBytes, PassObjects, Denominator}
use Rattle.cert_format.specs.declared.fault.CertFault.{CertFault as TextFault}
use Rattle.cert_format.specs.declared.fault.CertFault.TheVariants as cert
use Rattle.cert_checker.specs.declared.invalid.InvalidKind.{InvalidKind}
use Rattle.cert_checker.specs.declared.invalid.InvalidKind.TheVariants.{RequestCount}
use Rattle.cert_format.specs.Readings.{Reading as Certificate}
use Rattle.cert_format.specs.Readings as certificates
use Rattle.cert_checker.specs.Rules.{found, first_some, record_fault, end_fault}
use Rattle.cert_checker.specs.Walks.{Event, at_line, events_at, last_events, refusal_event, text_event, walk, walk_under}
use Rattle.cert_checker.specs.Walks as walks
use Rattle.cert_checker.proofs.Walked.{passing_is_valid_lem}
use Rattle.bound_words.specs.declared.plans.BoundSettings.{BoundSettings}
use Rattle.bound_words.specs.declared.plans.DrawSettings.{DrawSettings}
use Rattle.bound_words.specs.declared.plans.Plan.{Plan}
use Rattle.bound_words.specs.declared.words.WordFault.{WordFault}
use Rattle.bound_run.specs.declared.status.Status.{Status}
use Rattle.bound_run.specs.declared.status.Status.TheVariants.{Done, Invalid, Words, BadLine, Limit, TraceFault, CertFault, ReportFault, MadeFault, NoMemory, PolicyMemory, Unequal, NotFlag, FlagCount, Impossible}
use Rattle.bound_run.specs.Demos.{trace_drawn}
use Rattle.trace_any.specs.Loads.{pass_limits}
use Rattle.bound_words.specs.declared.plans.SweepSettings.{SweepSettings}
use Rattle.policy_model.specs.declared.names.PolicyName.{PolicyName}
use Rattle.policy_stream.specs.Streams as streams
use Rattle.trace_sweep.specs.Faults.{HasTooMany}
use Rattle.bound_run.specs.Sweeps.{IsGoodPass, names_of}
use Rattle.bound_run.specs.BoundsMade.{RefusesDenominator}
use Rattle.bound_run.specs.Readings.{HasDenominator, IsCapacityCurved, IsGoodTrace, IsReady, IsReplayed, trace_in}
use Rattle.bound_run.specs.Run.{AnswersCurve, AnswersCurveOf, AnswersOf, AnswersSweep, Answers, AreGoodInputs, CheckEnds, CurveEnds, Completes, DemoEnds, Devices, MakesEnd, NoneFails, RefineEnds, ReportsEnd, RunEnds, CommandEnds, UpgradeEnds, SweepEnds}
use Rattle.bound_run.specs.Refusals.{RefusesBounds, RefusesLoading}
use Rattle.ttl_runs.specs.Bounds.{IsReadyWithTtl}
use Rattle.bound_run.specs.Upgrades.{IsGoodCertificate}
use Rattle.bound_run.specs.Statuses.{ending_of}
use Rattle.bound_run.proofs.Claimed.{judge_complete}
use Rattle.bound_words.specs.declared.plans.Settings.{Settings}
use Rattle.bound_words.specs.declared.plans.Settings.TheVariants.{Bounds, TtlBounds, Check, Replay, Curve, CapacityCurve, Sweep, Judge, Demo, Upgrade, Refine}
use Rattle.bound_words.specs.Capacities.{capacities_in}
use Rattle.bound_words.specs.Plans.{settings_of}

-- no refusal of the trace
abbrev IsOfCert : Option Event → Type 0
IsOfCert None = Unit {0}
IsOfCert (Some (walks.Invalid line kind)) = Unit {0}
IsOfCert (Some (walks.Refused fault)) = ⊥

of_line : (line : ℕ) (kind : Option InvalidKind) → IsOfCert (at_line line kind)
of_line line None = tt
of_line line (Some kind) = tt

of_text : (fault : Option TextFault) → IsOfCert (text_event fault)
of_text None = tt
of_text (Some (cert.BadText line kind)) = tt
of_text (Some (cert.Truncated line)) = tt
of_text (Some (cert.Trailing line)) = tt
of_text (Some cert.ReadFault) = tt

of_choice : (b : Bool) (e : Option Event) → IsOfCert e → IsOfCert (cond b e None)
of_choice true e of = of
of_choice false e of = tt

-- the first of two is none if neither is
of_first : (e : Option Event) (others : List (Option Event)) → IsOfCert e → IsOfCert (first_some others) → IsOfCert (first_some (e ∷ others))
of_first None others first rest = rest
of_first (Some e) others first rest = first

of_request : (h : Header) (fills : List Bool) (c : Certificate) (trace : List Object) (t : ℕ) → IsOfCert (first_some (events_at h fills c trace t))
of_request h fills c trace t =
    of_first _ _ (of_line (header_len h + t) (found (t == h.requests) (RequestCount h.requests (t + 1))))
    (of_first _ _ (of_choice (length c.records == t) (text_event c.fault) (of_text c.fault))
    (of_first _ _ (of_line (header_len h + 1 + t) (record_fault h fills trace c.records t)) tt))

of_last : (h : Header) (c : Certificate) (trace : Trace) → trace.refused ≡ None → IsOfCert (first_some (last_events h c trace))
of_last h c trace whole =
    let n = length trace.requests in
    of_first _ _ (subst (λ r. IsOfCert (refusal_event r)) (sym whole) tt)
    (of_first _ _ (of_line (header_len h + n) (found (nat_lt n h.requests) (RequestCount h.requests n)))
    (of_first _ _ (of_choice (length c.records == n) (text_event c.fault) (of_text c.fault))
    (of_first _ _ (of_line (header_len h + 1 + n) (end_fault h trace.fills trace.requests c.records)) tt)))

of_requests : (f : ℕ → Option Event) (numbers : List ℕ) (rest : List (Option Event)) → ((t : ℕ) → IsOfCert (f t)) → IsOfCert (first_some rest) → IsOfCert (first_some (map f numbers ++ rest))
of_requests f [] rest each last = last
of_requests f (t ∷ numbers) rest each last = of_first (f t) (map f numbers ++ rest) (each t) (of_requests f numbers rest each last)

of_walk : (trace : Trace) (c : Certificate) (head : Option Header) → trace.refused ≡ None → IsOfCert (walk_under head trace c)
of_walk trace c None whole = of_text c.fault
of_walk trace c (Some h) whole = of_requests (λ t. first_some (events_at h trace.fills c trace.requests t)) (numbers_of trace.requests) (last_events h c trace) (λ t. of_request h trace.fills c trace.requests t) (of_last h c trace whole)

-- the walk over a trace that isn't refused doesn't end at a refusal of it
never_refused : (trace : Trace) (text : List ℕ) (fault : FaultOfTrace) → trace.refused ≡ None → walk trace text ≡ Some (walks.Refused fault) → ⊥
never_refused trace text fault whole is = subst IsOfCert is (of_walk trace (certificates.reading text) (certificates.reading text).header whole)

some_is_not_none : {A : Type 0} (x : A) (o : Option A) → o ≡ Some x → o ≡ None → ⊥
some_is_not_none x o is none = false≢true (ap is_some (sym none ∙ is))

-- a whole reading is of these requests with their marks
whole_is : (r : Trace) (requests : Trail) (dropped : ℕ) → IsWhole r requests dropped → trace_in r ≡ requests
whole_is r requests dropped whole = ap (λ xs. record { objects = xs; fills = r.fills }) whole.requests ∙ ap (λ fills. record { objects = requests.objects; fills = fills }) whole.marks

-- bounds

module _ (AreReady : List ℕ → List ℕ → Type 0) (format : Format) (asked : BoundSettings) (source report made : Device) (good : IsGoodTrace format source.before) (denominator : HasDenominator format asked source.before)
    (source_works : ¬ (HasFailed source)) (report_works : ¬ (HasFailed report)) (made_works : ¬ (HasFailed made)) where
  not_refused : (before : Option (List ℕ)) (fault : FaultOfTrace) → IsGoodTrace format before → IfSome before (λ bytes. (reading format full_limits bytes).refused ≡ Some fault) → ⊥
  not_refused None fault known_trace why = known_trace
  not_refused (Some bytes) fault known_trace why = some_is_not_none fault _ why known_trace

  not_past : (before : Option (List ℕ)) (requests : Trail) (dropped : ℕ) → HasDenominator format asked before → IfSome before (λ bytes. IsWhole (reading format full_limits bytes) requests dropped) → RefusesDenominator asked requests → IsGoodTrace format before → ⊥
  not_past None requests dropped has whole refused known_trace = known_trace
  not_past (Some bytes) requests dropped has whole refused known_trace = has (subst (RefusesDenominator asked) (sym (whole_is _ requests dropped whole)) refused)

  bounds_complete : (status : Status) → MakesEnd AreReady (RefusesBounds format asked source) report made (ending_of status) → (status ≡ Done) ⊎ (status ≡ NoMemory)
  bounds_complete Done e = inl refl
  bounds_complete NoMemory e = inr refl
  bounds_complete (BadLine line kind) e = absurd (not_refused source.before (trace.BadLine line kind) good e.0.0)
  bounds_complete (Limit Requests) e = absurd (not_refused source.before trace.TooManyRequests good e.0.0)
  bounds_complete (Limit TraceBytes) e = absurd (not_refused source.before trace.InputTooLong good e.0.0)
  bounds_complete (Limit Denominator) e = absurd (not_past source.before e.0.requests e.0.notes.dropped denominator e.0.loaded.read e.0.refused good)
  bounds_complete (Limit PassRequests) e = absurd e.0
  bounds_complete (Limit PassBytes) e = absurd e.0
  bounds_complete (Limit PassObjects) e = absurd e.0
  bounds_complete (PolicyMemory policy capacity) e = absurd e.0
  bounds_complete TraceFault e = absurd (source_works e.0)
  bounds_complete ReportFault (cert, text, ready, all, failed) = absurd (report_works failed.0)
  bounds_complete MadeFault (cert, text, ready, failed, line) = absurd (made_works failed.0)
  bounds_complete (Invalid line kind) e = absurd e.0
  bounds_complete (Words fault) e = absurd e.0
  bounds_complete CertFault e = absurd e.0
  bounds_complete (Unequal first other) e = absurd e.0
  bounds_complete (NotFlag line) e = absurd e.0
  bounds_complete (FlagCount flags requests) e = absurd e.0
  bounds_complete (Impossible cause capacity) e = absurd e.0

-- checks

module _ (format : Format) where
  yes_at : (before text : Option (List ℕ)) (requests : Trail) (dropped : ℕ) (h : Header) (records : List Record) → IsGoodTrace format before → IsSome text
      → IfSome before (λ bytes. IsWhole (reading format full_limits bytes) requests dropped) → IfSome text (λ t. t ≡ cert_text h records) → IsValid requests.objects requests.fills h records → AnswersOf format before text Done
  yes_at None text requests dropped h records known_trace known_cert whole is valid = absurd known_trace
  yes_at (Some bytes) None requests dropped h records known_trace known_cert whole is valid = absurd (false≢true known_cert)
  yes_at (Some bytes) (Some t) requests dropped h records known_trace known_cert whole is valid =
      record { header = h; records = records; text_is = is; valid = subst (λ (xs : Trail). IsValid xs.objects xs.fills h records) (sym (whole_is _ requests dropped whole)) valid }

  no_at : (before text : Option (List ℕ)) (line : ℕ) (kind : InvalidKind) → IsGoodTrace format before → IsSome text
      → IfSome before (λ bytes. IfSome text (λ t. walk (reading format full_limits bytes) t ≡ Some (walks.Invalid line kind))) → AnswersOf format before text (Invalid line kind)
  no_at None text line kind known_trace known_cert first = absurd known_trace
  no_at (Some bytes) None line kind known_trace known_cert first = absurd (false≢true known_cert)
  no_at (Some bytes) (Some t) line kind known_trace known_cert first = λ certified.
      some_is_not_none (walks.Invalid line kind) _ first
      ((passing_is_valid_lem (reading format full_limits bytes) t known_trace).1 (certified.header, certified.records, certified.text_is, certified.valid))

  not_refused_at : (before text : Option (List ℕ)) (fault : FaultOfTrace) → IsGoodTrace format before → IsSome text
      → IfSome before (λ bytes. IfSome text (λ t. walk (reading format full_limits bytes) t ≡ Some (walks.Refused fault))) → ⊥
  not_refused_at None text fault known_trace known_cert first = known_trace
  not_refused_at (Some bytes) None fault known_trace known_cert first = false≢true known_cert
  not_refused_at (Some bytes) (Some t) fault known_trace known_cert first = never_refused (reading format full_limits bytes) t fault known_trace first

  free_at : (before text : Option (List ℕ)) → AnswersOf format before text NoMemory
  free_at None text = tt
  free_at (Some bytes) None = tt
  free_at (Some bytes) (Some t) = tt

  module _ (source cert report : Device) (good : IsGoodTrace format source.before) (known_cert : IsSome cert.before)
      (source_works : ¬ (HasFailed source)) (cert_works : ¬ (HasFailed cert)) (report_works : ¬ (HasFailed report)) where
    check_complete : (status : Status) → CheckEnds format source cert report (ending_of status) → AnswersOf format source.before cert.before status
    check_complete Done (text, said, all) = yes_at source.before cert.before said.accepted.requests said.notes.dropped said.verdict.header said.accepted.records good known_cert said.accepted.loaded.read said.accepted.text said.accepted.valid
    check_complete (Invalid line kind) e = no_at source.before cert.before line kind good known_cert e.0.0
    check_complete (BadLine line kind) e = absurd (not_refused_at source.before cert.before (trace.BadLine line kind) good known_cert e.0.0)
    check_complete (Limit Requests) e = absurd (not_refused_at source.before cert.before trace.TooManyRequests good known_cert e.0.0)
    check_complete (Limit TraceBytes) e = absurd (not_refused_at source.before cert.before trace.InputTooLong good known_cert e.0.0)
    check_complete (Limit Denominator) e = absurd e.0
    check_complete (Limit PassRequests) e = absurd e.0
    check_complete (Limit PassBytes) e = absurd e.0
    check_complete (Limit PassObjects) e = absurd e.0
    check_complete (PolicyMemory policy capacity) e = absurd e.0
    check_complete TraceFault e = absurd (source_works e.0)
    check_complete CertFault e = absurd (cert_works e.0)
    check_complete ReportFault (text, said, failed) = absurd (report_works failed.0)
    check_complete NoMemory e = free_at source.before cert.before
    check_complete (Words fault) e = absurd e.0
    check_complete MadeFault e = absurd e.0
    check_complete (Unequal first other) e = absurd e.0
    check_complete (NotFlag line) e = absurd e.0
    check_complete (FlagCount flags requests) e = absurd e.0
    check_complete (Impossible cause capacity) e = absurd e.0

  -- a refinement answers as the check of its certificate
  module _ (width : ℕ) (source cert report made : Device) (good : IsGoodTrace format source.before) (known_cert : IsSome cert.before)
      (source_works : ¬ (HasFailed source)) (cert_works : ¬ (HasFailed cert)) (report_works : ¬ (HasFailed report)) (made_works : ¬ (HasFailed made)) where
    refine_complete : (status : Status) → RefineEnds format width source cert report made (ending_of status) → AnswersOf format source.before cert.before status
    refine_complete Done (written, text, refined, all, printed) = yes_at source.before cert.before refined.requests refined.notes.dropped refined.header refined.records good known_cert refined.read.loaded.read refined.read.text refined.read.valid
    refine_complete (Invalid line kind) e = no_at source.before cert.before line kind good known_cert e.0.0
    refine_complete (BadLine line kind) e = absurd (not_refused_at source.before cert.before (trace.BadLine line kind) good known_cert e.0.0)
    refine_complete (Limit Requests) e = absurd (not_refused_at source.before cert.before trace.TooManyRequests good known_cert e.0.0)
    refine_complete (Limit TraceBytes) e = absurd (not_refused_at source.before cert.before trace.InputTooLong good known_cert e.0.0)
    refine_complete (Limit Denominator) e = absurd e.0
    refine_complete (Limit PassRequests) e = absurd e.0
    refine_complete (Limit PassBytes) e = absurd e.0
    refine_complete (Limit PassObjects) e = absurd e.0
    refine_complete (PolicyMemory policy capacity) e = absurd e.0
    refine_complete TraceFault e = absurd (source_works e.0)
    refine_complete CertFault e = absurd (cert_works e.0)
    refine_complete ReportFault (written, text, refined, all, failed) = absurd (report_works failed.0)
    refine_complete MadeFault (written, text, refined, failed, line) = absurd (made_works failed.0)
    refine_complete NoMemory e = free_at source.before cert.before
    refine_complete (Words fault) e = absurd e.0
    refine_complete (Unequal first other) e = absurd e.0
    refine_complete (NotFlag line) e = absurd e.0
    refine_complete (FlagCount flags requests) e = absurd e.0
    refine_complete (Impossible cause capacity) e = absurd e.0

-- replays, and curves over capacities

module _ (format : Format) (IsText : List ℕ → Type 0) (source report : Device) (good : IsGoodTrace format source.before)
    (source_works : ¬ (HasFailed source)) (report_works : ¬ (HasFailed report)) where
  loading_works : (before : Option (List ℕ)) (fault : FaultOfTrace) → IsGoodTrace format before → IfSome before (λ bytes. (reading format full_limits bytes).refused ≡ Some fault) → ⊥
  loading_works None fault known_trace why = known_trace
  loading_works (Some bytes) fault known_trace why = some_is_not_none fault _ why known_trace

  report_complete : (status : Status) → ReportsEnd IsText (RefusesLoading format source) report (ending_of status) → (status ≡ Done) ⊎ (status ≡ NoMemory)
  report_complete Done e = inl refl
  report_complete NoMemory e = inr refl
  report_complete (BadLine line kind) e = absurd (loading_works source.before (trace.BadLine line kind) good e.0.0)
  report_complete (Limit Requests) e = absurd (loading_works source.before trace.TooManyRequests good e.0.0)
  report_complete (Limit TraceBytes) e = absurd (loading_works source.before trace.InputTooLong good e.0.0)
  report_complete (Limit Denominator) e = absurd e.0
  report_complete (Limit PassRequests) e = absurd e.0
  report_complete (Limit PassBytes) e = absurd e.0
  report_complete (Limit PassObjects) e = absurd e.0
  report_complete (PolicyMemory policy capacity) e = absurd e.0
  report_complete TraceFault e = absurd (source_works e.0)
  report_complete ReportFault (text, replayed, failed) = absurd (report_works failed.0)
  report_complete MadeFault e = absurd e.0
  report_complete (Invalid line kind) e = absurd e.0
  report_complete (Words fault) e = absurd e.0
  report_complete CertFault e = absurd e.0
  report_complete (Unequal first other) e = absurd e.0
  report_complete (NotFlag line) e = absurd e.0
  report_complete (FlagCount flags requests) e = absurd e.0
  report_complete (Impossible cause capacity) e = absurd e.0

-- sweeps

module _ (format : Format) (asked : SweepSettings) (capacities : List ℕ) (policies : List PolicyName) (source report : Device) (good : IsGoodPass format (streams.settings_of policies capacities) source.before)
    (source_works : ¬ (HasFailed source)) (report_works : ¬ (HasFailed report)) where
  pass_works : (before : Option (List ℕ)) (fault : FaultOfTrace) → IsGoodPass format (streams.settings_of policies capacities) before → IfSome before (λ bytes. (reading format pass_limits bytes).refused ≡ Some fault) → ⊥
  pass_works None fault known_trace why = known_trace
  pass_works (Some bytes) fault known_trace why = some_is_not_none fault _ why known_trace.0

  few_enough : (before : Option (List ℕ)) → IsGoodPass format (streams.settings_of policies capacities) before → streams.settings_of policies capacities ≢ [] → HasTooMany format before → ⊥
  few_enough None known_trace some many = known_trace
  few_enough (Some bytes) known_trace some many = omega (arith, known_trace.1 some, many)

  sweep_complete : (status : Status) → SweepEnds format asked capacities policies source report (ending_of status) → AnswersSweep status
  sweep_complete Done e = tt
  sweep_complete NoMemory e = tt
  sweep_complete (PolicyMemory policy capacity) e = tt
  sweep_complete (BadLine line kind) e = absurd (pass_works source.before (trace.BadLine line kind) good e.0.0)
  sweep_complete (Limit PassRequests) e = absurd (pass_works source.before trace.TooManyRequests good e.0.0)
  sweep_complete (Limit PassBytes) e = absurd (pass_works source.before trace.InputTooLong good e.0.0)
  sweep_complete (Limit PassObjects) e = absurd (few_enough source.before good e.0.0 e.0.1)
  sweep_complete (Limit Requests) e = absurd e.0
  sweep_complete (Limit TraceBytes) e = absurd e.0
  sweep_complete (Limit Denominator) e = absurd e.0
  sweep_complete TraceFault e = absurd (source_works e.0)
  sweep_complete ReportFault (text, swept, failed) = absurd (report_works failed.0)
  sweep_complete MadeFault e = absurd e.0
  sweep_complete (Invalid line kind) e = absurd e.0
  sweep_complete (Words fault) e = absurd e.0
  sweep_complete CertFault e = absurd e.0
  sweep_complete (Unequal first other) e = absurd e.0
  sweep_complete (NotFlag line) e = absurd e.0
  sweep_complete (FlagCount flags requests) e = absurd e.0
  sweep_complete (Impossible cause capacity) e = absurd e.0

-- curves

module _ (format : Format) (source report : Device) (good : IsGoodTrace format source.before)
    (source_works : ¬ (HasFailed source)) (report_works : ¬ (HasFailed report)) where
  curve_not_refused : (before : Option (List ℕ)) (fault : FaultOfTrace) → IsGoodTrace format before → IfSome before (λ bytes. (reading format full_limits bytes).refused ≡ Some fault) → ⊥
  curve_not_refused None fault known_trace why = known_trace
  curve_not_refused (Some bytes) fault known_trace why = some_is_not_none fault _ why known_trace

  -- what is true of the requests that were loaded is what is answered of the bytes
  answered_of : (status : Status) (before : Option (List ℕ)) (requests : Trail) (dropped : ℕ) → IsGoodTrace format before
      → IfSome before (λ bytes. IsWhole (reading format full_limits bytes) requests dropped) → AnswersCurve requests.objects status → AnswersCurveOf format before status
  answered_of status None requests dropped known_trace whole is = absurd known_trace
  answered_of status (Some bytes) requests dropped known_trace whole is = subst (λ xs. AnswersCurve xs status) (sym whole.requests) is

  answered_free : (before : Option (List ℕ)) → IsGoodTrace format before → AnswersCurveOf format before NoMemory
  answered_free None known_trace = absurd known_trace
  answered_free (Some bytes) known_trace = tt

  curve_complete : (status : Status) → CurveEnds format source report (ending_of status) → AnswersCurveOf format source.before status
  curve_complete Done (text, curved, all) = answered_of Done source.before curved.requests curved.notes.dropped good curved.loaded.read curved.report.one_size
  curve_complete (Unequal first other) e = answered_of (Unequal first other) source.before e.0.requests e.0.notes.dropped good e.0.loaded.read e.0.clash
  curve_complete NoMemory e = answered_free source.before good
  curve_complete (BadLine line kind) e = absurd (curve_not_refused source.before (trace.BadLine line kind) good e.0.0)
  curve_complete (Limit Requests) e = absurd (curve_not_refused source.before trace.TooManyRequests good e.0.0)
  curve_complete (Limit TraceBytes) e = absurd (curve_not_refused source.before trace.InputTooLong good e.0.0)
  curve_complete (Limit Denominator) e = absurd e.0
  curve_complete (Limit PassRequests) e = absurd e.0
  curve_complete (Limit PassBytes) e = absurd e.0
  curve_complete (Limit PassObjects) e = absurd e.0
  curve_complete (PolicyMemory policy capacity) e = absurd e.0
  curve_complete TraceFault e = absurd (source_works e.0)
  curve_complete ReportFault (text, curved, failed) = absurd (report_works failed.0)
  curve_complete MadeFault e = absurd e.0
  curve_complete (Invalid line kind) e = absurd e.0
  curve_complete (Words fault) e = absurd e.0
  curve_complete CertFault e = absurd e.0
  curve_complete (NotFlag line) e = absurd e.0
  curve_complete (FlagCount flags requests) e = absurd e.0
  curve_complete (Impossible cause capacity) e = absurd e.0

-- demos

module _ (drawing : DrawSettings) (asked : BoundSettings) (report : Device) (denominator : ¬ (RefusesDenominator asked (trace_drawn drawing))) (report_works : ¬ (HasFailed report)) where
  demo_complete : (status : Status) → DemoEnds drawing asked report (ending_of status) → (status ≡ Done) ⊎ (status ≡ NoMemory)
  demo_complete Done e = inl refl
  demo_complete NoMemory e = inr refl
  demo_complete (BadLine line kind) e = absurd e.0
  demo_complete (Limit Requests) e = absurd e.0
  demo_complete (Limit TraceBytes) e = absurd e.0
  demo_complete (Limit Denominator) e = absurd (denominator e.0)
  demo_complete (Limit PassRequests) e = absurd e.0
  demo_complete (Limit PassBytes) e = absurd e.0
  demo_complete (Limit PassObjects) e = absurd e.0
  demo_complete (PolicyMemory policy capacity) e = absurd e.0
  demo_complete TraceFault e = absurd e.0
  demo_complete ReportFault (text, shows, failed) = absurd (report_works failed.0)
  demo_complete MadeFault e = absurd e.0
  demo_complete (Invalid line kind) e = absurd e.0
  demo_complete (Words fault) e = absurd e.0
  demo_complete CertFault e = absurd e.0
  demo_complete (Unequal first other) e = absurd e.0
  demo_complete (NotFlag line) e = absurd e.0
  demo_complete (FlagCount flags requests) e = absurd e.0
  demo_complete (Impossible cause capacity) e = absurd e.0

-- upgrades

module _ (source report made : Device) (good : IsGoodCertificate source.before) (source_works : ¬ (HasFailed source)) (report_works : ¬ (HasFailed report)) (made_works : ¬ (HasFailed made)) where
  -- a certificate without a fault isn't refused for one
  faultless : (before : Option (List ℕ)) (line : ℕ) (kind : InvalidKind) → IsGoodCertificate before → IfSome before (λ bytes. text_event (certificates.reading bytes).fault ≡ Some (walks.Invalid line kind)) → ⊥
  faultless None line kind known_cert why = known_cert
  faultless (Some bytes) line kind known_cert why = false≢true (ap is_some (sym (ap text_event known_cert) ∙ why))

  upgrade_complete : (status : Status) → UpgradeEnds source report made (ending_of status) → (status ≡ Done) ⊎ (status ≡ NoMemory)
  upgrade_complete Done e = inl refl
  upgrade_complete NoMemory e = inr refl
  upgrade_complete (Invalid line kind) e = absurd (faultless source.before line kind good e.0.0)
  upgrade_complete CertFault e = absurd (source_works e.0)
  upgrade_complete ReportFault (cert, text, ready, all, failed) = absurd (report_works failed.0)
  upgrade_complete MadeFault (cert, text, ready, failed, line) = absurd (made_works failed.0)
  upgrade_complete (BadLine line kind) e = absurd e.0
  upgrade_complete (Limit name) e = absurd e.0
  upgrade_complete (PolicyMemory policy capacity) e = absurd e.0
  upgrade_complete TraceFault e = absurd e.0
  upgrade_complete (Words fault) e = absurd e.0
  upgrade_complete (Unequal first other) e = absurd e.0
  upgrade_complete (NotFlag line) e = absurd e.0
  upgrade_complete (FlagCount flags requests) e = absurd e.0
  upgrade_complete (Impossible cause capacity) e = absurd e.0

-- a command whose inputs are good ends in its answer
module _ (d : Devices) (status : Status) (works : NoneFails d) where
  command_complete : (settings : Settings) → CommandEnds settings d (ending_of status) → AreGoodInputs settings d → Answers settings d status
  command_complete (Bounds format asked) e inputs =
      bounds_complete (IsReady format asked d.trace) format asked d.trace d.report d.made inputs.0 inputs.1 works.trace works.report works.made status e.0
  command_complete (TtlBounds format ttl asked) e inputs =
      bounds_complete (IsReadyWithTtl format ttl asked d.trace) format asked d.trace d.report d.made inputs.0 inputs.1 works.trace works.report works.made status e.0
  command_complete (Replay format r) e inputs = report_complete format (IsReplayed format r d.trace) d.trace d.report inputs works.trace works.report status e.0
  command_complete (Curve format) e inputs = curve_complete format d.trace d.report inputs works.trace works.report status e.0
  command_complete (CapacityCurve format capacities asked) e inputs =
      report_complete format (IsCapacityCurved format asked (capacities_in capacities) d.trace) d.trace d.report inputs works.trace works.report status e.0
  command_complete (Sweep format capacities policies asked) e inputs =
      sweep_complete format asked (capacities_in capacities) (names_of policies) d.trace d.report inputs works.trace works.report status e.0
  command_complete (Judge format asked) e inputs = judge_complete format asked d.trace d.beside d.report inputs.0 inputs.1 works.trace works.beside works.report status e.0
  command_complete Upgrade e inputs = upgrade_complete d.beside d.report d.made inputs works.beside works.report works.made status e.0
  command_complete (Check format) e inputs = check_complete format d.trace d.beside d.report inputs.0 inputs.1 works.trace works.beside works.report status e.0
  command_complete (Refine format width) e inputs = refine_complete format width d.trace d.beside d.report d.made inputs.0 inputs.1 works.trace works.beside works.report works.made status e.0
  command_complete (Demo drawing asked) e inputs = demo_complete drawing asked d.report inputs works.report status e.0

pub complete : (read : Result Plan WordFault) (d : Devices) (status : Status) → RunEnds read d status → Completes read d status
complete (Ok plan) d status ends = λ good works. command_complete d status works (settings_of plan) ends good
complete (Err fault) d status ends = tt
