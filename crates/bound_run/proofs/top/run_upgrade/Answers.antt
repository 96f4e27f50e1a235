use Rattle.std.proofs.Common.{refl}
use Rattle.bound_io.specs.Devices.{device}
use Rattle.bound_run.specs.Statuses.{ending_of}
use Rattle.bound_run.specs.Upgrades.{IsUpgraded}
use Rattle.bound_run.specs.Refusals.{RefusesUpgrade}
use Rattle.bound_run.proofs.Outcomes.{makes_refused, makes_written, ending_of-status_of}
use Rattle.bound_run.proofs.top.run_upgrade.Goals as goal

pub returns-in-Ok-clause-ends : goal.returns-in-Ok-clause-ends
returns-in-Ok-clause-ends g c =
    let source = device (g.Q.Source.left c.args.cert.now) (g.Q.Source.left c.upgrade_all.new.cert) (g.Q.Source.faults c.args.cert.now) (g.Q.Source.faults c.upgrade_all.new.cert) in
    makes_written (IsUpgraded source) (RefusesUpgrade source) _ _ c.in-Ok.rewritten.cert.items c.in-Ok.rewritten.report.items (ending_of c.write_out.result) c.in-Ok.ensures.upgraded c.write_out.ensures.written

pub returns-in-Err-clause-ends : goal.returns-in-Err-clause-ends
returns-in-Err-clause-ends g c =
    let source = device (g.Q.Source.left c.args.cert.now) (g.Q.Source.left c.upgrade_all.new.cert) (g.Q.Source.faults c.args.cert.now) (g.Q.Source.faults c.upgrade_all.new.cert) in
    rw (c.refuse.ensures.status, ending_of-status_of c.in-Err.refusal)
    (makes_refused (IsUpgraded source) (RefusesUpgrade source) _ _ c.in-Err.refusal (λ e. e) c.in-Err.ensures.refused (refl, refl) c.refuse.ensures.reported)
