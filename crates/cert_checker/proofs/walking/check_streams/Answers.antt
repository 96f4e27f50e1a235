use Rattle.std.proofs.Common.{List, Result, Ok, Err, IfOk}
use Rattle.cache_rules.specs.Stored.{Making}
use Rattle.cache_model.specs.declared.certificates.Record.{Record}
use Rattle.cert_checker.specs.declared.verdict.Verdict.{Verdict}
use Rattle.cert_checker.specs.declared.walking.CheckFault.{CheckFault}
use Rattle.cert_checker.specs.Checks.{Inputs, seen_inputs, IsPassed}
use Rattle.cert_checker.specs.Keeping.{IsCheckEnd}
use Rattle.cert_checker.proofs.NextChecks.{event_closed}
use Rattle.cert_checker.proofs.Nearness.{near_closed}
use Rattle.cert_checker.proofs.walking.check_streams.Goals as goal

yes_closed : (has : Making → List Record → Type 0) (start end : Inputs) (result : Result Verdict CheckFault) → IsCheckEnd has start end result → IfOk result (IsPassed start end)
yes_closed has start end (Ok verdict) closed = closed.3.passed
yes_closed has start end (Err why) closed = tt

pub returns-clause-yes : goal.returns-clause-yes
returns-clause-yes g c =
    let start : Inputs = seen_inputs g.T.Source.left g.T.Source.faults g.Q.Source.left g.Q.Source.faults c.args.reader.now c.args.trace.now c.args.cert.now c.args.certificate.now in
    let end : Inputs = seen_inputs g.T.Source.left g.T.Source.faults g.Q.Source.left g.Q.Source.faults c.check_with.new.reader c.check_with.new.trace c.check_with.new.cert c.check_with.new.certificate in
    yes_closed (λ _ _. Unit {0}) start end c.check_with.result c.check_with.ensures.checked

pub returns-clause-event : goal.returns-clause-event
returns-clause-event g c =
    let start : Inputs = seen_inputs g.T.Source.left g.T.Source.faults g.Q.Source.left g.Q.Source.faults c.args.reader.now c.args.trace.now c.args.cert.now c.args.certificate.now in
    let end : Inputs = seen_inputs g.T.Source.left g.T.Source.faults g.Q.Source.left g.Q.Source.faults c.check_with.new.reader c.check_with.new.trace c.check_with.new.cert c.check_with.new.certificate in
    event_closed (λ _ _. Unit {0}) start end c.check_with.result c.check_with.ensures.checked

pub returns-clause-near : goal.returns-clause-near
returns-clause-near g c =
    let start : Inputs = seen_inputs g.T.Source.left g.T.Source.faults g.Q.Source.left g.Q.Source.faults c.args.reader.now c.args.trace.now c.args.cert.now c.args.certificate.now in
    let end : Inputs = seen_inputs g.T.Source.left g.T.Source.faults g.Q.Source.left g.Q.Source.faults c.check_with.new.reader c.check_with.new.trace c.check_with.new.cert c.check_with.new.certificate in
    near_closed (λ _ _. Unit {0}) start end c.check_with.result c.requires.fresh_cert c.check_with.ensures.taken c.check_with.ensures.checked
