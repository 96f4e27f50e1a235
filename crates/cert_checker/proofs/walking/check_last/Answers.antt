use Rattle.std.proofs.Common.{inr, ◌≡◌, ◌+◌, ◌<◌, ◌∙◌, ap, refl, subst, arith, length}
use Rattle.std.proofs.lemmas.Result.{err_from_is_err_and}
use Rattle.cache_model.specs.declared.certificates.Header.{Header}
use Rattle.cache_model.specs.Texts.{header_len}
use Rattle.cert_format.proofs.Headers.{few_lines}
use Rattle.cert_format.proofs.Taken.{same_taken}
use Rattle.cert_checker.specs.declared.invalid.InvalidKind.TheVariants.{RequestCount}
use Rattle.cert_checker.specs.declared.walking.CheckFault.TheVariants.{Invalid}
use Rattle.cert_checker.specs.Checks.{Inputs, inputs, IsStop}
use Rattle.cert_checker.proofs.Stops.{last_line}
use Rattle.cert_checker.proofs.Ends.{stop_few, stop_end, stop_end_rule, passes}
use Rattle.cert_checker.proofs.KeptFaults.{kept_none, kept_text}
use Rattle.cert_checker.proofs.Calm.{calm_text}
use Rattle.cert_checker.proofs.walking.check_last.Goals as goal

pub returns-then-read-header-clause-checked : goal.returns-then-read-header-clause-checked
returns-then-read-header-clause-checked g c = λ start reader left faults h given records checked_all.
    let s = c.requires.in_step.3 in
    let many = checked_all.stands.sums.steps in
    let written : c.args.header.now.requests ≡ h.requests = ap (λ (k : Header). k.requests) (c.requires.header ∙ checked_all.stands.header) in
    let at : c.args.cert.now.lines.line ≡ header_len h + length given.objects = last_line h given records c.args.checker.now c.args.cert.now.lines.line checked_all.stands s.line in
    let line_is : c.line.result ≡ header_len h + length given.objects = omega (arith, c.line.ensures, at) in
    let read : c.records_read-read.result ≡ length given.objects = omega (arith, c.records_read-read.ensures, s.left, many, ap (λ (k : Header). k.requests) c.requires.header) in
    let fewer : length given.objects < h.requests = omega (arith, read, written, c.if-read-header.true) in
    let is : c.count_differs.result ≡ Invalid (header_len h + length given.objects) (RequestCount h.requests (length given.objects)) =
    c.count_differs.ensures ∙ (ap (λ l. Invalid l (RequestCount c.args.header.now.requests c.records_read-read.result)) line_is
    ∙ (ap (λ w. Invalid (header_len h + length given.objects) (RequestCount w c.records_read-read.result)) written ∙ ap (λ r. Invalid (header_len h + length given.objects) (RequestCount h.requests r)) read)) in
    let now : Inputs = inputs reader left faults c.args.cert.now (g.Q.Source.left c.args.certificate.now) (g.Q.Source.faults c.args.certificate.now) in
    rw is (stop_few start h given records now c.args.checker.now checked_all now refl refl refl s.held at fewer)

pub returns-in_err-finish_text-clause-checked : goal.returns-in_err-finish_text-clause-checked
returns-in_err-finish_text-clause-checked g c =
    let p = err_from_is_err_and c.from_residual.result c.from_residual.ensures.1 in
    rw (p.1, p.2) (λ start reader left faults h given records checked_all.
    let s = c.requires.in_step.3 in
    let written : c.args.header.now.requests ≡ h.requests = ap (λ (k : Header). k.requests) (c.requires.header ∙ checked_all.stands.header) in
    let full : length given.objects ≡ h.requests = omega (arith, c.records_read-read.ensures, s.left, checked_all.stands.sums.steps, ap (λ (k : Header). k.requests) c.requires.header, written, checked_all.stands.input.within, c.if-read-header.false) in
    let e = c.in_err-finish_text.ensures in
    let now : Inputs = inputs reader left faults c.args.cert.now (g.Q.Source.left c.args.certificate.now) (g.Q.Source.faults c.args.certificate.now) in
    let end : Inputs = inputs reader left faults c.finish_text.new.self (g.Q.Source.left c.finish_text.new.source) (g.Q.Source.faults c.finish_text.new.source) in
    stop_end start h given records now c.args.checker.now checked_all full end refl e.ahead e.past c.in_err-finish_text.field-0.0 (e.read s.cert_fault) (e.within s.cert_fault))

pub returns-in-Ok-clause-checked : goal.returns-in-Ok-clause-checked
returns-in-Ok-clause-checked g c = λ start reader left faults h given records checked_all.
    let s = c.requires.in_step.3 in
    let written : c.args.header.now.requests ≡ h.requests = ap (λ (k : Header). k.requests) (c.requires.header ∙ checked_all.stands.header) in
    let full : length given.objects ≡ h.requests = omega (arith, c.records_read-read.ensures, s.left, checked_all.stands.sums.steps, ap (λ (k : Header). k.requests) c.requires.header, written, checked_all.stands.input.within, c.if-read-header.false) in
    let e = c.in_ok-finish_text.ensures in
    let now : Inputs = inputs reader left faults c.args.cert.now (g.Q.Source.left c.args.certificate.now) (g.Q.Source.faults c.args.certificate.now) in
    let end : Inputs = inputs reader left faults c.finish_text.new.self (g.Q.Source.left c.finish_text.new.source) (g.Q.Source.faults c.finish_text.new.source) in
    passes start h given records now c.args.checker.now checked_all full end refl e.ahead e.past (e.read s.cert_fault).2 (e.read s.cert_fault).0 refl refl (record { trace = refl; certificate = e.reads.none_failed }) c.in-Ok.verdict (c.in-Ok.ensures h given.fills given.objects records checked_all.stands)

pub returns-in-Err-clause-checked : goal.returns-in-Err-clause-checked
returns-in-Err-clause-checked g c = λ start reader left faults h given records checked_all.
    let s = c.requires.in_step.3 in
    let many = checked_all.stands.sums.steps in
    let written : c.args.header.now.requests ≡ h.requests = ap (λ (k : Header). k.requests) (c.requires.header ∙ checked_all.stands.header) in
    let full : length given.objects ≡ h.requests = omega (arith, c.records_read-read.ensures, s.left, many, ap (λ (k : Header). k.requests) c.requires.header, written, checked_all.stands.input.within, c.if-read-header.false) in
    let e = c.in_ok-finish_text.ensures in
    let at : c.args.cert.now.lines.line ≡ header_len h + length given.objects = last_line h given records c.args.checker.now c.args.cert.now.lines.line checked_all.stands s.line in
    let line_is : header_len h + 1 + length given.objects ≡ c.line-end.result + 1 = omega (arith, c.line-end.ensures, at) in
    let none : c.args.cert.now.left ≡ 0 = omega (arith, s.left, many, full, ap (λ (k : Header). k.requests) checked_all.stands.header) in
    let end : Inputs = inputs reader left faults c.finish_text.new.self (g.Q.Source.left c.finish_text.new.source) (g.Q.Source.faults c.finish_text.new.source) in
    let now : Inputs = inputs reader left faults c.args.cert.now (g.Q.Source.left c.args.certificate.now) (g.Q.Source.faults c.args.certificate.now) in
    subst (λ l. IsStop start end (Invalid l c.in-Err.kind)) line_is
    (stop_end_rule start h given records now c.args.checker.now checked_all full end refl e.ahead e.past (e.read s.cert_fault).2 c.in-Err.kind s.stage none at (c.in-Err.ensures h given.fills given.objects records checked_all.stands))

pub returns-then-read-header-clause-taken : goal.returns-then-read-header-clause-taken
returns-then-read-header-clause-taken g c = same_taken c.args.cert.now.lines (g.Q.Source.left c.args.certificate.now)

pub returns-in_err-finish_text-clause-taken : goal.returns-in_err-finish_text-clause-taken
returns-in_err-finish_text-clause-taken g c = c.in_err-finish_text.ensures.taken

pub returns-in-Ok-clause-taken : goal.returns-in-Ok-clause-taken
returns-in-Ok-clause-taken g c = c.in_ok-finish_text.ensures.taken

pub returns-in-Err-clause-taken : goal.returns-in-Err-clause-taken
returns-in-Err-clause-taken g c = c.in_ok-finish_text.ensures.taken

pub returns-in_err-finish_text-clause-reads : goal.returns-in_err-finish_text-clause-reads
returns-in_err-finish_text-clause-reads g c =
    let p = err_from_is_err_and c.from_residual.result c.from_residual.ensures.1 in
    let r = c.in_err-finish_text.ensures.reads in
    rw (p.1, p.2) record { source = r.source; later = r.later; none_failed = tt; else_none_failed = calm_text c.in_err-finish_text.field-0.0 _ _ r.else_none_failed }

pub returns-in-Ok-clause-reads : goal.returns-in-Ok-clause-reads
returns-in-Ok-clause-reads g c =
    let r = c.in_ok-finish_text.ensures.reads in
    record { source = r.source; later = r.later; none_failed = r.none_failed; else_none_failed = tt }

pub returns-in-Err-clause-reads : goal.returns-in-Err-clause-reads
returns-in-Err-clause-reads g c =
    let r = c.in_ok-finish_text.ensures.reads in
    record { source = r.source; later = r.later; none_failed = tt; else_none_failed = inr r.none_failed }

pub overflow_add-end : goal.overflow_add-end
overflow_add-end g c =
    let s = c.requires.in_step.3 in
    let h = c.args.checker.now.header in
    omega (arith, c.line-end.ensures, s.line, s.left, few_lines h, s.some.3.input.header_in_range.requests)

pub returns-then-read-header-clause-kept : goal.returns-then-read-header-clause-kept
returns-then-read-header-clause-kept g c = rw c.count_differs.ensures (kept_none _ _ _ refl c.requires.in_step.3.cert_fault tt)

pub returns-in_err-finish_text-clause-kept : goal.returns-in_err-finish_text-clause-kept
returns-in_err-finish_text-clause-kept g c =
    let p = err_from_is_err_and c.from_residual.result c.from_residual.ensures.1 in
    rw (p.1, p.2) (kept_text c.in_err-finish_text.field-0.0 _ _ refl (c.in_err-finish_text.ensures.fault c.requires.in_step.3.cert_fault))

pub returns-in-Ok-clause-kept : goal.returns-in-Ok-clause-kept
returns-in-Ok-clause-kept g c = (refl, c.in_ok-finish_text.ensures.fault c.requires.in_step.3.cert_fault)

pub returns-in-Err-clause-kept : goal.returns-in-Err-clause-kept
returns-in-Err-clause-kept g c = kept_none _ _ _ refl (c.in_ok-finish_text.ensures.fault c.requires.in_step.3.cert_fault) tt
