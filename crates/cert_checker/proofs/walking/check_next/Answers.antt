use Rattle.std.proofs.Common.{inr, ◌≡◌, ◌+◌, ◌<◌, ◌∙◌, sym, ap, refl, subst, arith, [], ◌∷◌, ◌++◌, length}
use Rattle.std.proofs.lemmas.Result.{err_from_is_err_and}
use Rattle.std.proofs.lemmas.List.{length-append}
use Rattle.cache_model.specs.declared.certificates.Header.{Header}
use Rattle.cache_model.specs.Texts.{header_len, line, record_line}
use Rattle.cert_checker.specs.declared.invalid.InvalidKind.TheVariants.{RequestCount}
use Rattle.cert_checker.specs.declared.walking.CheckFault.TheVariants.{Invalid}
use Rattle.cert_checker.specs.Checks.{Inputs, seen_inputs, IsFailing, StandsForAll, fault_at}
use Rattle.cache_rules.specs.Stored.{with_request}
use Rattle.trace_any.specs.Readers.{last_fills, last_mark}
use Rattle.trace_any.specs.Readings.{is_marked}
use Rattle.cert_format.proofs.Taken.{same_taken}
use Rattle.cert_checker.proofs.Losses.{keeps}
use Rattle.cert_checker.proofs.KeptFaults.{kept_none, kept_rule, kept_text, kept_trace}
use Rattle.cert_checker.proofs.Stops.{last_line, stop_trace, end_trace, stop_count, stop_text, stop_rule, goes_further}
use Rattle.cert_checker.proofs.Marked.{AreMarked-next, marked_now}
use Rattle.cert_checker.proofs.Calm.{calm_text, calm_trace}
use Rattle.cert_checker.proofs.walking.check_next.Goals as goal

pub returns-in_err-object-clause-checked : goal.returns-in_err-object-clause-checked
returns-in_err-object-clause-checked g c =
    let now : Inputs = seen_inputs g.T.Source.left g.T.Source.faults g.Q.Source.left g.Q.Source.faults c.args.reader.now c.args.trace.now c.args.cert.now c.args.certificate.now in
    let end : Inputs = seen_inputs g.T.Source.left g.T.Source.faults g.Q.Source.left g.Q.Source.faults c.next.new.self c.next.new.source c.args.cert.now c.args.certificate.now in
    let p = err_from_is_err_and c.from_residual.result c.from_residual.ensures.1 in
    rw (p.1, p.2) (λ start h given records checked. stop_trace start h given records now c.args.checker.now checked end c.in_err-object.field-0.0 (c.in_err-object.ensures.next c.requires.in_step.trace_fault)
    (c.in_err-object.ensures.no_further c.requires.in_step.trace_fault) c.next.ensures.ahead)

pub returns-in_default-clause-checked : goal.returns-in_default-clause-checked
returns-in_default-clause-checked g c = λ start h given records checked.
    let now : Inputs = seen_inputs g.T.Source.left g.T.Source.faults g.Q.Source.left g.Q.Source.faults c.args.reader.now c.args.trace.now c.args.cert.now c.args.certificate.now in
    let end : Inputs = seen_inputs g.T.Source.left g.T.Source.faults g.Q.Source.left g.Q.Source.faults c.next.new.self c.next.new.source c.args.cert.now c.args.certificate.now in
    end_trace start h given records now c.args.checker.now checked end (rw c.in_default.is at c.in_ok-object.ensures.next c.requires.in_step.trace_fault) refl refl
    (record { trace = c.in_ok-object.ensures.reads.none_failed ∙ checked.calm.trace; certificate = checked.calm.certificate })

pub returns-then-read-header-clause-checked : goal.returns-then-read-header-clause-checked
returns-then-read-header-clause-checked g c = λ start h given records checked.
    let now : Inputs = seen_inputs g.T.Source.left g.T.Source.faults g.Q.Source.left g.Q.Source.faults c.args.reader.now c.args.trace.now c.args.cert.now c.args.certificate.now in
    let end : Inputs = seen_inputs g.T.Source.left g.T.Source.faults g.Q.Source.left g.Q.Source.faults c.next.new.self c.next.new.source c.args.cert.now c.args.certificate.now in
    let next = rw c.in-Some.is at c.in_ok-object.ensures.next c.requires.in_step.trace_fault in
    let near = rw c.in-Some.is at c.in_ok-object.ensures.lines c.requires.in_step.trace_fault in
    let many = checked.stands.sums.steps in
    let at : c.args.cert.now.lines.line ≡ header_len h + length given.objects = last_line h given records c.args.checker.now c.args.cert.now.lines.line checked.stands c.requires.in_step.line in
    let written : c.args.header.now.requests ≡ h.requests = ap (λ (k : Header). k.requests) (c.requires.header ∙ checked.stands.header) in
    let line_is : c.line.result ≡ header_len h + length given.objects = omega (arith, c.line.ensures, at) in
    let read : c.records_read-read.result + 1 ≡ length given.objects + 1 = omega (arith, c.records_read-read.ensures, c.requires.in_step.left, many, ap (λ (k : Header). k.requests) c.requires.header) in
    let full : length given.objects ≡ h.requests = omega (arith, read, written, c.if-read-header.true) in
    let is : c.count_differs.result ≡ Invalid (header_len h + length given.objects) (RequestCount h.requests (length given.objects + 1)) =
    c.count_differs.ensures ∙ (ap (λ l. Invalid l (RequestCount c.args.header.now.requests (c.records_read-read.result + 1))) line_is
    ∙ (ap (λ w. Invalid (header_len h + length given.objects) (RequestCount w (c.records_read-read.result + 1))) written ∙ ap (λ r. Invalid (header_len h + length given.objects) (RequestCount h.requests r)) read)) in
    rw is (stop_count start h given records now c.args.checker.now checked c.in-Some.object c.next.new.self (g.T.Source.left c.next.new.source) c.in_ok-object.ensures.format next.1 near c.in_ok-object.ensures.ahead end refl refl refl c.requires.in_step.held at full)

pub returns-in_err-entry-clause-checked : goal.returns-in_err-entry-clause-checked
returns-in_err-entry-clause-checked g c =
    let now : Inputs = seen_inputs g.T.Source.left g.T.Source.faults g.Q.Source.left g.Q.Source.faults c.args.reader.now c.args.trace.now c.args.cert.now c.args.certificate.now in
    let end : Inputs = seen_inputs g.T.Source.left g.T.Source.faults g.Q.Source.left g.Q.Source.faults c.next.new.self c.next.new.source c.next_record.new.self c.next_record.new.source in
    let p = err_from_is_err_and c.from_residual-in_err-entry.result c.from_residual-in_err-entry.ensures.1 in
    rw (p.1, p.2) (λ start h given records checked.
    let next = rw c.in-Some.is at c.in_ok-object.ensures.next c.requires.in_step.trace_fault in
    let near = rw c.in-Some.is at c.in_ok-object.ensures.lines c.requires.in_step.trace_fault in
    let written : c.args.header.now.requests ≡ h.requests = ap (λ (k : Header). k.requests) (c.requires.header ∙ checked.stands.header) in
    let fewer : length given.objects < h.requests = omega (arith, c.records_read-read.ensures, c.requires.in_step.left, checked.stands.sums.steps, ap (λ (k : Header). k.requests) c.requires.header, written, checked.stands.input.within, c.if-read-header.false) in
    let e = c.in_err-entry.ensures in
    stop_text start h given records now c.args.checker.now checked c.in-Some.object c.next.new.self (g.T.Source.left c.next.new.source) c.in_ok-object.ensures.format next.1 near c.in_ok-object.ensures.ahead end c.in_err-entry.field-0.0 refl fewer (e.read c.requires.in_step.cert_fault) (e.within c.requires.in_step.cert_fault) e.past e.ahead)

pub returns-in_err-step-clause-checked : goal.returns-in_err-step-clause-checked
returns-in_err-step-clause-checked g c =
    let now : Inputs = seen_inputs g.T.Source.left g.T.Source.faults g.Q.Source.left g.Q.Source.faults c.args.reader.now c.args.trace.now c.args.cert.now c.args.certificate.now in
    let end : Inputs = seen_inputs g.T.Source.left g.T.Source.faults g.Q.Source.left g.Q.Source.faults c.next.new.self c.next.new.source c.next_record.new.self c.next_record.new.source in
    let p = err_from_is_err_and c.from_residual-in_err-step.result c.from_residual-in_err-step.ensures.1 in
    rw (p.1, p.2) (λ start h given records checked.
    let next = rw c.in-Some.is at c.in_ok-object.ensures.next c.requires.in_step.trace_fault in
    let near = rw c.in-Some.is at c.in_ok-object.ensures.lines c.requires.in_step.trace_fault in
    let written : c.args.header.now.requests ≡ h.requests = ap (λ (k : Header). k.requests) (c.requires.header ∙ checked.stands.header) in
    let fewer : length given.objects < h.requests = omega (arith, c.records_read-read.ensures, c.requires.in_step.left, checked.stands.sums.steps, ap (λ (k : Header). k.requests) c.requires.header, written, checked.stands.input.within, c.if-read-header.false) in
    let e = c.in_ok-entry.ensures in
    let read = e.read c.requires.in_step.cert_fault in
    stop_rule start h given records now c.args.checker.now checked c.in-Some.object c.next.new.self (g.T.Source.left c.next.new.source) c.in_ok-object.ensures.format next.1 near c.in_ok-object.ensures.ahead c.in_ok-entry.entry (line (record_line c.args.cert.now.version c.args.cert.now.price c.in_ok-entry.entry)) end read.4 read.5 e.past c.in_err-step.field-0.0 refl fewer
    (last_line h given records c.args.checker.now c.args.cert.now.lines.line checked.stands c.requires.in_step.line) e.ahead
    (subst (λ l. IsFailing l (fault_at h (with_request given c.in-Some.object (last_mark c.next.new.self)) (records ++ c.in_ok-entry.entry ∷ []) (length given.objects)) c.in_err-step.field-0.0) c.line-2.ensures (c.in_err-step.ensures.stepped c.next.new.self h given records c.last_fills-only.ensures (marked_now given checked.marked c.in_ok-object.ensures.format) checked.stands)))

pub returns-clause-checked : goal.returns-clause-checked
returns-clause-checked g c = λ start h given records checked.
    let now : Inputs = seen_inputs g.T.Source.left g.T.Source.faults g.Q.Source.left g.Q.Source.faults c.args.reader.now c.args.trace.now c.args.cert.now c.args.certificate.now in
    let end : Inputs = seen_inputs g.T.Source.left g.T.Source.faults g.Q.Source.left g.Q.Source.faults c.next.new.self c.next.new.source c.next_record.new.self c.next_record.new.source in
    let next = rw c.in-Some.is at c.in_ok-object.ensures.next c.requires.in_step.trace_fault in
    let near = rw c.in-Some.is at c.in_ok-object.ensures.lines c.requires.in_step.trace_fault in
    let e = c.in_ok-entry.ensures in
    let read = e.read c.requires.in_step.cert_fault in
    goes_further start h given records now c.args.checker.now checked c.in-Some.object c.next.new.self (g.T.Source.left c.next.new.source) c.in_ok-object.ensures.format next.1 near c.in_ok-object.ensures.ahead c.in_ok-entry.entry (line (record_line c.args.cert.now.version c.args.cert.now.price c.in_ok-entry.entry)) end read.4 read.5 e.past c.step.new.checker refl refl
    (c.in_ok-step.ensures.stepped c.next.new.self h given records c.last_fills-only.ensures (marked_now given checked.marked c.in_ok-object.ensures.format) checked.stands)
    (record { trace = c.in_ok-object.ensures.reads.none_failed ∙ checked.calm.trace; certificate = e.reads.none_failed ∙ checked.calm.certificate })

pub returns-clause-in_step : goal.returns-clause-in_step
returns-clause-in_step g c =
    let s = c.requires.in_step in
    let e = c.in_ok-entry.ensures in
    let read = e.read s.cert_fault in
    let x = c.in-Some.object in
    let r = c.in_ok-entry.entry in
    let more = c.in_ok-step.ensures.stepped c.next.new.self c.args.checker.now.header s.some.0 s.some.1 c.last_fills-only.ensures (marked_now s.some.0 s.some.2 c.in_ok-object.ensures.format) s.some.3 in
    let steps = more.sums.steps ∙ length-append s.some.0.objects (x ∷ []) in
    let old = s.some.3.sums.steps in (
      record {
        trace_fault = c.in_ok-object.ensures.fault s.trace_fault;
        cert_fault = e.fault s.cert_fault;
        stage = read.0;
        line = omega (arith, read.4, s.line, steps, old, ap header_len more.header);
        left = omega (arith, read.1, s.left, steps, old, ap (λ (k : Header). k.requests) more.header);
        held = e.ahead;
        some = (
          with_request s.some.0 x (last_mark c.next.new.self),
          s.some.1 ++ r ∷ [],
          AreMarked-next (is_marked c.next.new.self.format) (last_fills c.next.new.self) s.some.0 x (marked_now s.some.0 s.some.2 c.in_ok-object.ensures.format),
          subst (λ k. StandsForAll k (with_request s.some.0 x (last_mark c.next.new.self)) (s.some.1 ++ r ∷ []) c.step.new.checker) (sym more.header) more,
        );
      },
      more.header,
    )

pub returns-in_err-object-clause-in_step : goal.returns-in_err-object-clause-in_step
returns-in_err-object-clause-in_step g c = rw (err_from_is_err_and c.from_residual.result c.from_residual.ensures.1).1 tt

pub returns-in_err-object-clause-fewer : goal.returns-in_err-object-clause-fewer
returns-in_err-object-clause-fewer g c = rw (err_from_is_err_and c.from_residual.result c.from_residual.ensures.1).1 tt

pub returns-in_err-entry-clause-in_step : goal.returns-in_err-entry-clause-in_step
returns-in_err-entry-clause-in_step g c = rw (err_from_is_err_and c.from_residual-in_err-entry.result c.from_residual-in_err-entry.ensures.1).1 tt

pub returns-in_err-entry-clause-fewer : goal.returns-in_err-entry-clause-fewer
returns-in_err-entry-clause-fewer g c = rw (err_from_is_err_and c.from_residual-in_err-entry.result c.from_residual-in_err-entry.ensures.1).1 tt

pub returns-in_err-step-clause-in_step : goal.returns-in_err-step-clause-in_step
returns-in_err-step-clause-in_step g c = rw (err_from_is_err_and c.from_residual-in_err-step.result c.from_residual-in_err-step.ensures.1).1 tt

pub returns-in_err-step-clause-fewer : goal.returns-in_err-step-clause-fewer
returns-in_err-step-clause-fewer g c = rw (err_from_is_err_and c.from_residual-in_err-step.result c.from_residual-in_err-step.ensures.1).1 tt

pub records_read-read-requires : goal.records_read-read-requires
records_read-read-requires g c = omega (arith, c.requires.in_step.left, ap (λ (k : Header). k.requests) c.requires.header)

pub next_record-requires : goal.next_record-requires
next_record-requires g c = λ none. (c.requires.in_step.stage, omega (arith, c.requires.in_step.left, c.records_read-read.ensures, c.if-read-header.false, ap (λ (k : Header). k.requests) c.requires.header))

pub step-requires-clause-fewer : goal.step-requires-clause-fewer
step-requires-clause-fewer g c = omega (arith, c.requires.in_step.left, c.records_read-read.ensures, c.if-read-header.false, ap (λ (k : Header). k.requests) c.requires.header)

pub step-requires-clause-size : goal.step-requires-clause-size
step-requires-clause-size g c = rw c.in-Some.is at c.in_ok-object.ensures.size

pub step-requires-clause-range : goal.step-requires-clause-range
step-requires-clause-range g c = c.in_ok-entry.ensures.range

pub returns-in_err-object-clause-taken : goal.returns-in_err-object-clause-taken
returns-in_err-object-clause-taken g c = same_taken c.args.cert.now.lines (g.Q.Source.left c.args.certificate.now)

pub returns-in_default-clause-taken : goal.returns-in_default-clause-taken
returns-in_default-clause-taken g c = same_taken c.args.cert.now.lines (g.Q.Source.left c.args.certificate.now)

pub returns-then-read-header-clause-taken : goal.returns-then-read-header-clause-taken
returns-then-read-header-clause-taken g c = same_taken c.args.cert.now.lines (g.Q.Source.left c.args.certificate.now)

pub returns-in_err-entry-clause-taken : goal.returns-in_err-entry-clause-taken
returns-in_err-entry-clause-taken g c = c.in_err-entry.ensures.taken

pub returns-in_err-step-clause-taken : goal.returns-in_err-step-clause-taken
returns-in_err-step-clause-taken g c = c.in_ok-entry.ensures.taken

pub returns-clause-taken : goal.returns-clause-taken
returns-clause-taken g c = c.in_ok-entry.ensures.taken

pub returns-in_err-object-clause-trace : goal.returns-in_err-object-clause-trace
returns-in_err-object-clause-trace g c = (c.in_err-object.ensures.reads.source, c.in_err-object.ensures.reads.later, c.in_err-object.ensures.ahead)

pub returns-in_err-object-clause-cert : goal.returns-in_err-object-clause-cert
returns-in_err-object-clause-cert g c = (keeps (g.Q.Source.left c.args.certificate.now), omega arith, c.requires.in_step.held)

pub returns-in_default-clause-trace : goal.returns-in_default-clause-trace
returns-in_default-clause-trace g c = (c.in_ok-object.ensures.reads.source, c.in_ok-object.ensures.reads.later, c.in_ok-object.ensures.ahead)

pub returns-in_default-clause-cert : goal.returns-in_default-clause-cert
returns-in_default-clause-cert g c = (keeps (g.Q.Source.left c.args.certificate.now), omega arith, c.requires.in_step.held)

pub returns-then-read-header-clause-trace : goal.returns-then-read-header-clause-trace
returns-then-read-header-clause-trace g c = (c.in_ok-object.ensures.reads.source, c.in_ok-object.ensures.reads.later, c.in_ok-object.ensures.ahead)

pub returns-then-read-header-clause-cert : goal.returns-then-read-header-clause-cert
returns-then-read-header-clause-cert g c = (keeps (g.Q.Source.left c.args.certificate.now), omega arith, c.requires.in_step.held)

pub returns-in_err-entry-clause-trace : goal.returns-in_err-entry-clause-trace
returns-in_err-entry-clause-trace g c = (c.in_ok-object.ensures.reads.source, c.in_ok-object.ensures.reads.later, c.in_ok-object.ensures.ahead)

pub returns-in_err-entry-clause-cert : goal.returns-in_err-entry-clause-cert
returns-in_err-entry-clause-cert g c = (c.in_err-entry.ensures.reads.source, c.in_err-entry.ensures.reads.later, c.in_err-entry.ensures.ahead)

pub returns-in_err-step-clause-trace : goal.returns-in_err-step-clause-trace
returns-in_err-step-clause-trace g c = (c.in_ok-object.ensures.reads.source, c.in_ok-object.ensures.reads.later, c.in_ok-object.ensures.ahead)

pub returns-in_err-step-clause-cert : goal.returns-in_err-step-clause-cert
returns-in_err-step-clause-cert g c = (c.in_ok-entry.ensures.reads.source, c.in_ok-entry.ensures.reads.later, c.in_ok-entry.ensures.ahead)

pub returns-clause-trace : goal.returns-clause-trace
returns-clause-trace g c = (c.in_ok-object.ensures.reads.source, c.in_ok-object.ensures.reads.later, c.in_ok-object.ensures.ahead)

pub returns-clause-cert : goal.returns-clause-cert
returns-clause-cert g c = (c.in_ok-entry.ensures.reads.source, c.in_ok-entry.ensures.reads.later, c.in_ok-entry.ensures.ahead)

pub returns-in_default-clause-in_step : goal.returns-in_default-clause-in_step
returns-in_default-clause-in_step g c =
    let s = c.requires.in_step in (
      record {
        trace_fault = c.in_ok-object.ensures.fault s.trace_fault;
        cert_fault = s.cert_fault;
        stage = s.stage;
        line = s.line;
        left = s.left;
        held = s.held;
        some = (s.some.0, s.some.1, marked_now s.some.0 s.some.2 c.in_ok-object.ensures.format, s.some.3);
      },
      refl,
    )

pub returns-clause-fewer : goal.returns-clause-fewer
returns-clause-fewer g c = omega (arith, (c.in_ok-entry.ensures.read c.requires.in_step.cert_fault).1)

pub returns-clause-size : goal.returns-clause-size
returns-clause-size g c = rw c.in-Some.is at c.in_ok-object.ensures.size

pub returns-in_err-object-clause-size : goal.returns-in_err-object-clause-size
returns-in_err-object-clause-size g c = rw (err_from_is_err_and c.from_residual.result c.from_residual.ensures.1).1 tt

pub returns-in_err-entry-clause-size : goal.returns-in_err-entry-clause-size
returns-in_err-entry-clause-size g c = rw (err_from_is_err_and c.from_residual-in_err-entry.result c.from_residual-in_err-entry.ensures.1).1 tt

pub returns-in_err-step-clause-size : goal.returns-in_err-step-clause-size
returns-in_err-step-clause-size g c = rw (err_from_is_err_and c.from_residual-in_err-step.result c.from_residual-in_err-step.ensures.1).1 tt

pub returns-in_err-object-clause-kept : goal.returns-in_err-object-clause-kept
returns-in_err-object-clause-kept g c =
    let p = err_from_is_err_and c.from_residual.result c.from_residual.ensures.1 in
    rw (p.1, p.2) (kept_trace c.in_err-object.field-0.0 _ _ (c.in_err-object.ensures.fault c.requires.in_step.trace_fault) c.requires.in_step.cert_fault)

pub returns-in_default-clause-kept : goal.returns-in_default-clause-kept
returns-in_default-clause-kept g c = (c.in_ok-object.ensures.fault c.requires.in_step.trace_fault, c.requires.in_step.cert_fault)

pub returns-then-read-header-clause-kept : goal.returns-then-read-header-clause-kept
returns-then-read-header-clause-kept g c = rw c.count_differs.ensures (kept_none _ _ _ (c.in_ok-object.ensures.fault c.requires.in_step.trace_fault) c.requires.in_step.cert_fault tt)

pub returns-in_err-entry-clause-kept : goal.returns-in_err-entry-clause-kept
returns-in_err-entry-clause-kept g c =
    let p = err_from_is_err_and c.from_residual-in_err-entry.result c.from_residual-in_err-entry.ensures.1 in
    rw (p.1, p.2) (kept_text c.in_err-entry.field-0.0 _ _ (c.in_ok-object.ensures.fault c.requires.in_step.trace_fault) (c.in_err-entry.ensures.fault c.requires.in_step.cert_fault))

pub returns-in_err-step-clause-kept : goal.returns-in_err-step-clause-kept
returns-in_err-step-clause-kept g c =
    let p = err_from_is_err_and c.from_residual-in_err-step.result c.from_residual-in_err-step.ensures.1 in
    let s = c.requires.in_step.some in
    rw (p.1, p.2) (kept_none _ _ _ (c.in_ok-object.ensures.fault c.requires.in_step.trace_fault) (c.in_ok-entry.ensures.fault c.requires.in_step.cert_fault)
    (kept_rule _ _ _ (c.in_err-step.ensures.stepped c.next.new.self c.args.checker.now.header s.0 s.1 c.last_fills-only.ensures (marked_now s.0 s.2 c.in_ok-object.ensures.format) s.3)))

pub returns-clause-kept : goal.returns-clause-kept
returns-clause-kept g c = (c.in_ok-object.ensures.fault c.requires.in_step.trace_fault, c.in_ok-entry.ensures.fault c.requires.in_step.cert_fault)

pub returns-in_err-object-clause-else_none_failed : goal.returns-in_err-object-clause-else_none_failed
returns-in_err-object-clause-else_none_failed g c =
    let p = err_from_is_err_and c.from_residual.result c.from_residual.ensures.1 in
    rw (p.1, p.2) (calm_trace c.in_err-object.field-0.0 _ _ c.in_err-object.ensures.reads.else_none_failed, inr refl)

pub returns-then-read-header-clause-else_none_failed : goal.returns-then-read-header-clause-else_none_failed
returns-then-read-header-clause-else_none_failed g c = (inr c.in_ok-object.ensures.reads.none_failed, inr refl)

pub returns-in_err-entry-clause-else_none_failed : goal.returns-in_err-entry-clause-else_none_failed
returns-in_err-entry-clause-else_none_failed g c =
    let p = err_from_is_err_and c.from_residual-in_err-entry.result c.from_residual-in_err-entry.ensures.1 in
    rw (p.1, p.2) (inr c.in_ok-object.ensures.reads.none_failed, calm_text c.in_err-entry.field-0.0 _ _ c.in_err-entry.ensures.reads.else_none_failed)

pub returns-in_err-step-clause-else_none_failed : goal.returns-in_err-step-clause-else_none_failed
returns-in_err-step-clause-else_none_failed g c =
    let p = err_from_is_err_and c.from_residual-in_err-step.result c.from_residual-in_err-step.ensures.1 in
    rw (p.1, p.2) (inr c.in_ok-object.ensures.reads.none_failed, inr c.in_ok-entry.ensures.reads.none_failed)
