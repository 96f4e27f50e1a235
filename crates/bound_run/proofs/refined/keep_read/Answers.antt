use Rattle.std.proofs.Common.{refl}
use Rattle.bound_io.specs.Devices.{Device, seen}
use Rattle.cert_checker.specs.Whole.{first_inputs, last_inputs}
use Rattle.bound_run.proofs.Judged.{kept_all, refused}
use Rattle.bound_run.proofs.refined.keep_read.Goals as goal

pub returns-in-Ok-clause-kept : goal.returns-in-Ok-clause-kept
returns-in-Ok-clause-kept g c =
    let trace : Device = seen g.T.Source.left g.T.Source.faults c.args.trace.now c.keep_all.new.trace in
    let cert : Device = seen g.Q.Source.left g.Q.Source.faults c.args.cert.now c.keep_all.new.certificate in
    let yes = c.in-Ok.ensures.yes in
    rw (yes.dropped_lines, yes.noted_are) at (kept_all c.args.format (first_inputs c.args.format trace cert) (last_inputs yes.reader yes.records trace cert) refl c.in-Ok.kept yes.kept_all)

pub returns-in-Err-clause-refused : goal.returns-in-Err-clause-refused
returns-in-Err-clause-refused g c =
    let trace : Device = seen g.T.Source.left g.T.Source.faults c.args.trace.now c.keep_all.new.trace in
    let cert : Device = seen g.Q.Source.left g.Q.Source.faults c.args.cert.now c.keep_all.new.certificate in
    let no = c.in-Err.ensures.no in
    rw c.refusal_of_check.ensures (refused c.args.format (first_inputs c.args.format trace cert) (last_inputs no.reader no.records trace cert) refl c.in-Err.fault no.event no.near)

pub returns-in-Ok-clause-none_failed : goal.returns-in-Ok-clause-none_failed
returns-in-Ok-clause-none_failed g c =
    let calm = c.in-Ok.ensures.yes.kept_all.passed.calm in
    (calm.trace, calm.certificate)
