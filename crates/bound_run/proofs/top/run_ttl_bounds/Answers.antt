use Rattle.std.proofs.Common.{refl}
use Rattle.bound_io.specs.Devices.{device}
use Rattle.ttl_runs.specs.Bounds.{IsReadyWithTtl}
use Rattle.bound_run.specs.Refusals.{RefusesBounds}
use Rattle.bound_run.specs.Statuses.{ending_of}
use Rattle.bound_run.proofs.Outcomes.{makes_refused, makes_written, ending_of-status_of}
use Rattle.bound_run.proofs.top.run_ttl_bounds.Goals as goal

pub returns-in-Ok-clause-ends : goal.returns-in-Ok-clause-ends
returns-in-Ok-clause-ends g c =
    let source = device (g.T.Source.left c.args.trace.now) (g.T.Source.left c.prepare_with_ttl.new.trace) (g.T.Source.faults c.args.trace.now) (g.T.Source.faults c.prepare_with_ttl.new.trace) in
    makes_written (IsReadyWithTtl c.args.format c.args.ttl c.args.asked.now source) (RefusesBounds c.args.format c.args.asked.now source) _ _ c.in-Ok.texts.cert.items c.in-Ok.texts.report.items (ending_of c.write_out.result) c.in-Ok.ensures.ready c.write_out.ensures.written

pub returns-in-Err-clause-ends : goal.returns-in-Err-clause-ends
returns-in-Err-clause-ends g c =
    let source = device (g.T.Source.left c.args.trace.now) (g.T.Source.left c.prepare_with_ttl.new.trace) (g.T.Source.faults c.args.trace.now) (g.T.Source.faults c.prepare_with_ttl.new.trace) in
    rw (c.refuse.ensures.status, ending_of-status_of c.in-Err.refusal)
    (makes_refused (IsReadyWithTtl c.args.format c.args.ttl c.args.asked.now source) (RefusesBounds c.args.format c.args.asked.now source) _ _ c.in-Err.refusal (λ e. e) c.in-Err.ensures.refused (refl, refl) c.refuse.ensures.reported)
