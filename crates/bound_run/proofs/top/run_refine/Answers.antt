use Rattle.std.proofs.Common.{refl}
use Rattle.bound_io.specs.Devices.{device}
use Rattle.bound_run.specs.Refusals.{RefusesCheck}
use Rattle.bound_run.specs.Refined.{IsRefined}
use Rattle.bound_run.specs.Statuses.{ending_of}
use Rattle.bound_run.proofs.Outcomes.{makes_refused, makes_written, ending_of-status_of}
use Rattle.bound_run.proofs.top.run_refine.Goals as goal

pub returns-in-Ok-clause-ends : goal.returns-in-Ok-clause-ends
returns-in-Ok-clause-ends g c =
    let source = device (g.T.Source.left c.args.trace.now) (g.T.Source.left c.refine_all.new.trace) (g.T.Source.faults c.args.trace.now) (g.T.Source.faults c.refine_all.new.trace) in
    let cert = device (g.Q.Source.left c.args.cert.now) (g.Q.Source.left c.refine_all.new.cert) (g.Q.Source.faults c.args.cert.now) (g.Q.Source.faults c.refine_all.new.cert) in
    makes_written (IsRefined c.args.format c.args.width source cert) (RefusesCheck c.args.format source cert) _ _ c.in-Ok.refined.cert.items c.in-Ok.refined.report.items (ending_of c.write_out.result) c.in-Ok.ensures.refined c.write_out.ensures.written

pub returns-in-Err-clause-ends : goal.returns-in-Err-clause-ends
returns-in-Err-clause-ends g c =
    let source = device (g.T.Source.left c.args.trace.now) (g.T.Source.left c.refine_all.new.trace) (g.T.Source.faults c.args.trace.now) (g.T.Source.faults c.refine_all.new.trace) in
    let cert = device (g.Q.Source.left c.args.cert.now) (g.Q.Source.left c.refine_all.new.cert) (g.Q.Source.faults c.args.cert.now) (g.Q.Source.faults c.refine_all.new.cert) in
    rw (c.refuse.ensures.status, ending_of-status_of c.in-Err.refusal)
    (makes_refused (IsRefined c.args.format c.args.width source cert) (RefusesCheck c.args.format source cert) _ _ c.in-Err.refusal (λ e. e) c.in-Err.ensures.refused (refl, refl) c.refuse.ensures.reported)
