use Rattle.std.proofs.Common.{◌∙◌, sym}
use Rattle.bound_io.specs.Devices.{seen}
use Rattle.freshness.specs.Seen.{noted_of}
use Rattle.cert_checker.proofs.FromNew.{uncounted_new}
use Rattle.cert_checker.proofs.counting.check_counted.Goals as goal

pub returns-clause-yes : goal.returns-clause-yes
returns-clause-yes g c =
    uncounted_new (λ _ _. Unit {0}) c.args.format (seen g.T.Source.left g.T.Source.faults c.args.trace.now c.check_new.new.trace) (seen g.Q.Source.left g.Q.Source.faults c.args.certificate.now c.check_new.new.certificate)
    c.in_ok-verdict.verdict c.in_ok-verdict.dropped (noted_of c.in_ok-verdict.noted) (sym c.has_marks.ensures ∙ c.if-has_marks.false) (sym c.can_end.ensures ∙ c.if-can_end.false) c.in_ok-verdict.ensures.yes
