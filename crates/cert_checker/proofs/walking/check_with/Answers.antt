use Rattle.std.proofs.Common.{inr, ◌≡◌, ◌∙◌, sym, ap, refl, subst, arith, [], ◌∷◌, ◌++◌, length, None}
use Rattle.std.proofs.lemmas.Bool.{false≢true}
use Rattle.std.proofs.lemmas.Result.{err_from_is_err_and}
use Rattle.cache_model.specs.declared.certificates.Header.{Header}
use Rattle.cache_model.specs.Texts.{header_len}
use Rattle.cert_format.proofs.Chains.{loses_both, taken_both}
use Rattle.cache_rules.specs.Stored.{with_request}
use Rattle.trace_any.specs.Readers.{last_mark}
use Rattle.trace_any.specs.Readings.{is_marked}
use Rattle.cert_checker.specs.Checks.{Inputs, seen_inputs}
use Rattle.cert_checker.specs.Keeping.{of_form}
use Rattle.cert_checker.specs.Summaries.{StandsFor}
use Rattle.cert_checker.proofs.Ends.{stop_header, opens}
use Rattle.cert_checker.proofs.KeptFaults.{kept_text}
use Rattle.cert_checker.proofs.Losses.{keeps}
use Rattle.cert_checker.proofs.Marked.{kept_next, marks_kept, none_marked}
use Rattle.cert_checker.proofs.NextChecks.{check_end}
use Rattle.cert_checker.proofs.Calm.{calm_last, calm_text, calm_then}
use Rattle.cert_checker.proofs.walking.check_with.Goals as goal

pub returns-in_err-header-clause-checked : goal.returns-in_err-header-clause-checked
returns-in_err-header-clause-checked g c =
    let start : Inputs = seen_inputs g.T.Source.left g.T.Source.faults g.Q.Source.left g.Q.Source.faults c.args.reader.now c.args.trace.now c.args.cert.now c.args.certificate.now in
    let end : Inputs = seen_inputs g.T.Source.left g.T.Source.faults g.Q.Source.left g.Q.Source.faults c.args.reader.now c.args.trace.now c.header.new.self c.header.new.source in
    let p = err_from_is_err_and c.from_residual.result c.from_residual.ensures.1 in
    let none : c.args.cert.now.fault ≡ None = ap (λ r. r.fault) c.requires.fresh_cert in
    let e = c.in_err-header.ensures in
    rw (p.1, p.2) (stop_header start c.requires.fresh_reader c.requires.fresh_cert end e.past c.in_err-header.field-0.0 refl (e.read none) (e.within none) e.ahead)

pub returns-in_err-header-clause-taken : goal.returns-in_err-header-clause-taken
returns-in_err-header-clause-taken g c = c.in_err-header.ensures.taken

pub returns-in_err-header-clause-kept : goal.returns-in_err-header-clause-kept
returns-in_err-header-clause-kept g c =
    let p = err_from_is_err_and c.from_residual.result c.from_residual.ensures.1 in
    let none : c.args.cert.now.fault ≡ None = ap (λ r. r.fault) c.requires.fresh_cert in
    rw (p.1, p.2) (kept_text c.in_err-header.field-0.0 _ _ (ap (λ r. r.fault) c.requires.fresh_reader) (c.in_err-header.ensures.fault none))

pub returns-in_err-header-clause-trace : goal.returns-in_err-header-clause-trace
returns-in_err-header-clause-trace g c = (keeps (g.T.Source.left c.args.trace.now), omega arith, omega (arith, ap (λ r. length r.lines.held) c.requires.fresh_reader))

pub returns-in_err-header-clause-cert : goal.returns-in_err-header-clause-cert
returns-in_err-header-clause-cert g c = (c.in_err-header.ensures.reads.source, c.in_err-header.ensures.reads.later)

pub returns-in_err-checker : goal.returns-in_err-checker
returns-in_err-checker g c = absurd (false≢true c.in_err-checker.ensures.succeeds)

pub loop-checker-init : goal.loop-checker-init
loop-checker-init g c =
    let start : Inputs = seen_inputs g.T.Source.left g.T.Source.faults g.Q.Source.left g.Q.Source.faults c.args.reader.now c.args.trace.now c.args.cert.now c.args.certificate.now in
    let middle : Inputs = seen_inputs g.T.Source.left g.T.Source.faults g.Q.Source.left g.Q.Source.faults c.args.reader.now c.args.trace.now c.header.new.self c.header.new.source in
    let none : c.args.cert.now.fault ≡ None = ap (λ r. r.fault) c.requires.fresh_cert in
    let e = c.in_ok-header.ensures in
    let read = e.read none in
    let st = c.in_ok-checker.ensures.nothing [] in
    record {
      in_step = record {
        trace_fault = ap (λ r. r.fault) c.requires.fresh_reader;
        cert_fault = e.fault none;
        stage = read.0;
        line = omega (arith, read.4, st.sums.steps, ap header_len st.header);
        left = omega (arith, read.1, st.sums.steps, ap (λ (k : Header). k.requests) st.header);
        held = e.ahead;
        some = (record { objects = []; fills = [] }, [], none_marked (is_marked c.args.reader.now.format), subst (λ k. StandsFor k [] [] [] c.in_ok-checker.checker) (sym st.header) st);
      };
      header = sym st.header;
      kept = (record { objects = []; fills = [] }, [], c.requires.nothing, opens start c.requires.fresh_reader c.requires.fresh_cert middle e.past c.in_ok-header.header c.in_ok-checker.checker read refl refl st (record { trace = refl; certificate = e.reads.none_failed }));
      trace_source = keeps (g.T.Source.left c.args.trace.now);
      trace_later = omega arith;
      taken = e.taken;
      cert_source = e.reads.source;
      cert_later = e.reads.later;
    }

pub loop-checker-preserved : goal.loop-checker-preserved
loop-checker-preserved g c =
    let start : Inputs = seen_inputs g.T.Source.left g.T.Source.faults g.Q.Source.left g.Q.Source.faults c.args.reader.now c.args.trace.now c.args.cert.now c.args.certificate.now in
    let i = c.loop-checker.invariant in
    let e = c.in_ok-object.ensures in
    record {
      in_step = e.in_step.0;
      header = i.header ∙ sym e.in_step.1;
      kept =
          let more = rw c.in-Some.is at (e.checked start c.in_ok-header.header i.kept.0 i.kept.1 i.kept.3) in (
            with_request i.kept.0 c.in-Some.object (last_mark c.check_next.new.reader),
            i.kept.1 ++ c.in-Some.entry ∷ [],
            kept_next (g.K.Keeper.has c.keep.new.self) _ c.check_next.new.reader (sym more.same_format) i.kept.0 c.in-Some.object _ c.last_fills.result c.last_fills.ensures
                (c.in_ok-keep.ensures (of_form c.args.reader.now.format i.kept.0) i.kept.1 i.kept.2),
            more,
          );
      trace_source = loses_both (g.T.Source.left c.args.trace.now) (g.T.Source.left c.loop-checker.trace) (g.T.Source.left c.check_next.new.trace) i.trace_source e.trace.0;
      trace_later = omega (arith, i.trace_later, e.trace.1);
      taken = taken_both c.args.cert.now.lines c.loop-checker.cert.lines c.check_next.new.cert.lines (g.Q.Source.left c.args.certificate.now) (g.Q.Source.left c.loop-checker.certificate) (g.Q.Source.left c.check_next.new.certificate) i.cert_source i.taken e.taken;
      cert_source = loses_both (g.Q.Source.left c.args.certificate.now) (g.Q.Source.left c.loop-checker.certificate) (g.Q.Source.left c.check_next.new.certificate) i.cert_source e.cert.0;
      cert_later = omega (arith, i.cert_later, e.cert.1);
    }

pub keep-requires-clause-few : goal.keep-requires-clause-few
keep-requires-clause-few g c =
    let i = c.loop-checker.invariant in
    let e = c.in_ok-object.ensures in
    let fewer = rw c.in-Some.is at e.fewer in
    let start : Inputs = seen_inputs g.T.Source.left g.T.Source.faults g.Q.Source.left g.Q.Source.faults c.args.reader.now c.args.trace.now c.args.cert.now c.args.certificate.now in
    let more = rw c.in-Some.is at (e.checked start c.in_ok-header.header i.kept.0 i.kept.1 i.kept.3) in
    let stands = i.kept.3.stands in
    (of_form c.args.reader.now.format i.kept.0, i.kept.1, i.kept.2, omega (arith, stands.sums.steps, i.in_step.left, e.in_step.0.left, fewer, i.in_step.some.3.input.header_in_range.requests), marks_kept _ c.check_next.new.reader (sym more.same_format) c.last_fills.result c.last_fills.ensures)

pub keep-requires-clause-size : goal.keep-requires-clause-size
keep-requires-clause-size g c = rw c.in-Some.is at c.in_ok-object.ensures.size

pub returns-in_err-object-clause-trace : goal.returns-in_err-object-clause-trace
returns-in_err-object-clause-trace g c =
    let i = c.loop-checker.invariant in
    let e = c.check_next.ensures in
    (loses_both (g.T.Source.left c.args.trace.now) (g.T.Source.left c.loop-checker.trace) (g.T.Source.left c.check_next.new.trace) i.trace_source e.trace.0, omega (arith, i.trace_later, e.trace.1), e.trace.2)

pub returns-in_err-object-clause-cert : goal.returns-in_err-object-clause-cert
returns-in_err-object-clause-cert g c =
    let i = c.loop-checker.invariant in
    let e = c.check_next.ensures in
    (loses_both (g.Q.Source.left c.args.certificate.now) (g.Q.Source.left c.loop-checker.certificate) (g.Q.Source.left c.check_next.new.certificate) i.cert_source e.cert.0, omega (arith, i.cert_later, e.cert.1))

pub returns-in_err-object-clause-taken : goal.returns-in_err-object-clause-taken
returns-in_err-object-clause-taken g c =
    let i = c.loop-checker.invariant in
    let e = c.check_next.ensures in
    taken_both c.args.cert.now.lines c.loop-checker.cert.lines c.check_next.new.cert.lines (g.Q.Source.left c.args.certificate.now) (g.Q.Source.left c.loop-checker.certificate) (g.Q.Source.left c.check_next.new.certificate) i.cert_source i.taken e.taken

pub returns-in_err-keep-clause-trace : goal.returns-in_err-keep-clause-trace
returns-in_err-keep-clause-trace g c =
    let i = c.loop-checker.invariant in
    let e = c.check_next.ensures in
    (loses_both (g.T.Source.left c.args.trace.now) (g.T.Source.left c.loop-checker.trace) (g.T.Source.left c.check_next.new.trace) i.trace_source e.trace.0, omega (arith, i.trace_later, e.trace.1), e.trace.2)

pub returns-in_err-keep-clause-cert : goal.returns-in_err-keep-clause-cert
returns-in_err-keep-clause-cert g c =
    let i = c.loop-checker.invariant in
    let e = c.check_next.ensures in
    (loses_both (g.Q.Source.left c.args.certificate.now) (g.Q.Source.left c.loop-checker.certificate) (g.Q.Source.left c.check_next.new.certificate) i.cert_source e.cert.0, omega (arith, i.cert_later, e.cert.1))

pub returns-in_err-keep-clause-taken : goal.returns-in_err-keep-clause-taken
returns-in_err-keep-clause-taken g c =
    let i = c.loop-checker.invariant in
    let e = c.check_next.ensures in
    taken_both c.args.cert.now.lines c.loop-checker.cert.lines c.check_next.new.cert.lines (g.Q.Source.left c.args.certificate.now) (g.Q.Source.left c.loop-checker.certificate) (g.Q.Source.left c.check_next.new.certificate) i.cert_source i.taken e.taken

pub returns-in_err-object-clause-checked : goal.returns-in_err-object-clause-checked
returns-in_err-object-clause-checked g c =
    let start : Inputs = seen_inputs g.T.Source.left g.T.Source.faults g.Q.Source.left g.Q.Source.faults c.args.reader.now c.args.trace.now c.args.cert.now c.args.certificate.now in
    let p = err_from_is_err_and c.from_residual-in_err-object.result c.from_residual-in_err-object.ensures.1 in
    let i = c.loop-checker.invariant in
    rw (p.1, p.2) (c.in_err-object.ensures.checked start c.in_ok-header.header i.kept.0 i.kept.1 i.kept.3)

pub returns-in_err-object-clause-kept : goal.returns-in_err-object-clause-kept
returns-in_err-object-clause-kept g c =
    let p = err_from_is_err_and c.from_residual-in_err-object.result c.from_residual-in_err-object.ensures.1 in
    rw (p.1, p.2) c.in_err-object.ensures.kept

pub returns-clause-trace : goal.returns-clause-trace
returns-clause-trace g c =
    let i = c.loop-checker.invariant in
    let e = c.check_next.ensures in
    (loses_both (g.T.Source.left c.args.trace.now) (g.T.Source.left c.loop-checker.trace) (g.T.Source.left c.check_next.new.trace) i.trace_source e.trace.0, omega (arith, i.trace_later, e.trace.1), e.trace.2)

pub returns-clause-cert : goal.returns-clause-cert
returns-clause-cert g c =
    let i = c.loop-checker.invariant in
    let e = c.check_next.ensures in
    (loses_both (g.Q.Source.left c.args.certificate.now) (g.Q.Source.left c.check_next.new.certificate) (g.Q.Source.left c.check_last.new.certificate) (loses_both (g.Q.Source.left c.args.certificate.now) (g.Q.Source.left c.loop-checker.certificate) (g.Q.Source.left c.check_next.new.certificate) i.cert_source e.cert.0) c.check_last.ensures.reads.source, omega (arith, i.cert_later, e.cert.1, c.check_last.ensures.reads.later))

pub returns-clause-taken : goal.returns-clause-taken
returns-clause-taken g c =
    let i = c.loop-checker.invariant in
    let e = c.check_next.ensures in
    taken_both c.args.cert.now.lines c.check_next.new.cert.lines c.check_last.new.cert.lines (g.Q.Source.left c.args.certificate.now) (g.Q.Source.left c.check_next.new.certificate) (g.Q.Source.left c.check_last.new.certificate) (loses_both (g.Q.Source.left c.args.certificate.now) (g.Q.Source.left c.loop-checker.certificate) (g.Q.Source.left c.check_next.new.certificate) i.cert_source e.cert.0)
    (taken_both c.args.cert.now.lines c.loop-checker.cert.lines c.check_next.new.cert.lines (g.Q.Source.left c.args.certificate.now) (g.Q.Source.left c.loop-checker.certificate) (g.Q.Source.left c.check_next.new.certificate) i.cert_source i.taken e.taken) c.check_last.ensures.taken

pub returns-clause-kept : goal.returns-clause-kept
returns-clause-kept g c = rw (c.in_ok-object.ensures.kept.0) c.check_last.ensures.kept

pub returns-clause-checked : goal.returns-clause-checked
returns-clause-checked g c =
    let start : Inputs = seen_inputs g.T.Source.left g.T.Source.faults g.Q.Source.left g.Q.Source.faults c.args.reader.now c.args.trace.now c.args.cert.now c.args.certificate.now in
    let i = c.loop-checker.invariant in
    let all = rw c.in_default.is at (c.in_ok-object.ensures.checked start c.in_ok-header.header i.kept.0 i.kept.1 i.kept.3) in
    let end : Inputs = seen_inputs g.T.Source.left g.T.Source.faults g.Q.Source.left g.Q.Source.faults c.check_next.new.reader c.check_next.new.trace c.check_last.new.cert c.check_last.new.certificate in
    check_end (g.K.Keeper.has c.loop-checker.keeper) start end i.kept.0 i.kept.1 i.kept.2 c.check_last.result
    (c.check_last.ensures.checked start c.check_next.new.reader (g.T.Source.left c.check_next.new.trace) (g.T.Source.faults c.check_next.new.trace) c.in_ok-header.header i.kept.0 i.kept.1 all)

pub returns-in_err-header-clause-else_none_failed : goal.returns-in_err-header-clause-else_none_failed
returns-in_err-header-clause-else_none_failed g c =
    let p = err_from_is_err_and c.from_residual.result c.from_residual.ensures.1 in
    rw (p.1, p.2) (inr refl, calm_text c.in_err-header.field-0.0 _ _ c.in_err-header.ensures.reads.else_none_failed)

pub returns-in_err-object-clause-else_none_failed : goal.returns-in_err-object-clause-else_none_failed
returns-in_err-object-clause-else_none_failed g c =
    let start : Inputs = seen_inputs g.T.Source.left g.T.Source.faults g.Q.Source.left g.Q.Source.faults c.args.reader.now c.args.trace.now c.args.cert.now c.args.certificate.now in
    let now : Inputs = seen_inputs g.T.Source.left g.T.Source.faults g.Q.Source.left g.Q.Source.faults c.loop-checker.reader c.loop-checker.trace c.loop-checker.cert c.loop-checker.certificate in
    let end : Inputs = seen_inputs g.T.Source.left g.T.Source.faults g.Q.Source.left g.Q.Source.faults c.check_next.new.reader c.check_next.new.trace c.check_next.new.cert c.check_next.new.certificate in
    let p = err_from_is_err_and c.from_residual-in_err-object.result c.from_residual-in_err-object.ensures.1 in
    rw (p.1, p.2) (calm_then start now end _ c.loop-checker.invariant.kept.3.calm c.in_err-object.ensures.else_none_failed)

pub returns-in_err-keep-clause-else_none_failed : goal.returns-in_err-keep-clause-else_none_failed
returns-in_err-keep-clause-else_none_failed g c =
    let start : Inputs = seen_inputs g.T.Source.left g.T.Source.faults g.Q.Source.left g.Q.Source.faults c.args.reader.now c.args.trace.now c.args.cert.now c.args.certificate.now in
    let i = c.loop-checker.invariant in
    let p = err_from_is_err_and c.from_residual-in_err-keep.result c.from_residual-in_err-keep.ensures.1 in
    let more = rw c.in-Some.is at (c.in_ok-object.ensures.checked start c.in_ok-header.header i.kept.0 i.kept.1 i.kept.3) in
    rw (p.1, p.2) (inr more.calm.trace, inr more.calm.certificate)

pub returns-clause-else_none_failed : goal.returns-clause-else_none_failed
returns-clause-else_none_failed g c =
    let start : Inputs = seen_inputs g.T.Source.left g.T.Source.faults g.Q.Source.left g.Q.Source.faults c.args.reader.now c.args.trace.now c.args.cert.now c.args.certificate.now in
    let i = c.loop-checker.invariant in
    let all = rw c.in_default.is at (c.in_ok-object.ensures.checked start c.in_ok-header.header i.kept.0 i.kept.1 i.kept.3) in
    let end : Inputs = seen_inputs g.T.Source.left g.T.Source.faults g.Q.Source.left g.Q.Source.faults c.check_next.new.reader c.check_next.new.trace c.check_last.new.cert c.check_last.new.certificate in
    calm_last start end (g.Q.Source.faults c.check_next.new.certificate) c.check_last.result all.calm.trace all.calm.certificate c.check_last.ensures.reads.else_none_failed
