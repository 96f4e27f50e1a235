use Rattle.std.proofs.Common.{refl}
use Rattle.bound_io.specs.Devices.{Device, seen}
use Rattle.cert_checker.specs.Whole.{first_inputs, last_inputs}
use Rattle.run_counts.specs.Countings.{counting_found}
use Rattle.bound_run.proofs.Judged.{refused, said}
use Rattle.bound_run.proofs.checking.verdict_of.Goals as goal

pub returns-in_ok-verdict_report-in-Ok-clause-yes_text : goal.returns-in_ok-verdict_report-in-Ok-clause-yes_text
returns-in_ok-verdict_report-in-Ok-clause-yes_text g c =
    let trace : Device = seen g.T.Source.left g.T.Source.faults c.args.trace.now c.check_counted.new.trace in
    let cert : Device = seen g.Q.Source.left g.Q.Source.faults c.args.cert.now c.check_counted.new.certificate in
    let yes = c.in-Ok.ensures.yes in
    let whole = yes.passes in
    said c.args.format (first_inputs c.args.format trace cert) (last_inputs whole.reader whole.records trace cert) refl c.in-Ok.passed.verdict c.in-Ok.passed.dropped (counting_found c.args.format c.in-Ok.passed) c.in_ok-verdict_report-in-Ok.field-0.items
    whole.passed whole.dropped_lines (rw (yes.counted, yes.late, yes.stale) refl) c.in_ok-verdict_report-in-Ok.ensures

pub returns-in-Err-clause-refused : goal.returns-in-Err-clause-refused
returns-in-Err-clause-refused g c =
    let trace : Device = seen g.T.Source.left g.T.Source.faults c.args.trace.now c.check_counted.new.trace in
    let cert : Device = seen g.Q.Source.left g.Q.Source.faults c.args.cert.now c.check_counted.new.certificate in
    let no = c.in-Err.ensures.no in
    rw c.refusal_of_check.ensures (refused c.args.format (first_inputs c.args.format trace cert) (last_inputs no.reader no.records trace cert) refl c.in-Err.fault no.event no.near)

pub returns-in_ok-verdict_report-in-Ok-clause-none_failed : goal.returns-in_ok-verdict_report-in-Ok-clause-none_failed
returns-in_ok-verdict_report-in-Ok-clause-none_failed g c =
    let calm = c.in-Ok.ensures.yes.passes.passed.calm in
    (calm.trace, calm.certificate)
