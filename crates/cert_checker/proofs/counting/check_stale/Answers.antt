use Rattle.std.proofs.Common.{◌≡◌, ◌∙◌, ℕ, Bool, true, false, ap, cond, refl, None, Some}
use Rattle.std.specs.Bool.{then_some}
use Rattle.bound_io.specs.Devices.{seen}
use Rattle.freshness.specs.Seen.{noted_of}
use Rattle.cert_checker.proofs.FromNew.{stale_new}
use Rattle.cert_checker.proofs.counting.check_stale.Goals as goal

shown : (b : Bool) (n : ℕ) → then_some b n ≡ cond b (Some n) None
shown true n = refl
shown false n = refl

pub returns-clause-yes : goal.returns-clause-yes
returns-clause-yes g c =
    stale_new (λ _ _. Unit {0}) c.args.format (seen g.T.Source.left g.T.Source.faults c.args.trace.now c.check_new.new.trace) (seen g.Q.Source.left g.Q.Source.faults c.args.certificate.now c.check_new.new.certificate)
    c.in_ok-verdict.verdict c.in_ok-verdict.dropped c.count_from-counted.result c.count_stale-stale.result (noted_of c.in_ok-verdict.noted) _ c.requires.can_end c.in_ok-verdict.ensures.yes c.count_from-counted.ensures c.count_stale-stale.ensures (c.then_some.ensures ∙ shown c.has_marks.result c.count_from-counted.result ∙ ap (λ b. cond b (Some c.count_from-counted.result) None) c.has_marks.ensures)
