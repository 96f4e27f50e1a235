use Rattle.bound_io.specs.Devices.{device}
use Rattle.bound_run.proofs.Upgraded.{rewritten_as, upgraded_of}
use Rattle.bound_run.proofs.upgrades.upgrade_all.Goals as goal

pub returns-in_ok-upgrade_text-in-Ok-clause-upgraded : goal.returns-in_ok-upgrade_text-in-Ok-clause-upgraded
returns-in_ok-upgrade_text-in-Ok-clause-upgraded g c =
    let source = device (g.Q.Source.left c.args.cert.now) (g.Q.Source.left c.rewrite-rewritten.new.source) (g.Q.Source.faults c.args.cert.now) (g.Q.Source.faults c.rewrite-rewritten.new.source) in
    upgraded_of source c.in-Ok.header c.into_bytes.result.items c.in_ok-upgrade_text-in-Ok.field-0.items
    (rewritten_as source c.in-Ok.header _ c.into_bytes.result.items c.into_bytes.ensures c.in-Ok.ensures.rewritten) c.in_ok-upgrade_text-in-Ok.ensures
