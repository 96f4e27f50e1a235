use Rattle.std.proofs.Common.{◌∙◌, ap, sym}
use Rattle.cert_checker.specs.Checks.{Inputs, seen_inputs}
use Rattle.trace_any.specs.Readers.{fresh}
use Rattle.cert_checker.proofs.FromNew.{ends_new, fails_new}
use Rattle.cert_checker.proofs.whole.check_read.Goals as goal

pub returns-in-Ok-clause-yes : goal.returns-in-Ok-clause-yes
returns-in-Ok-clause-yes g c =
    let start : Inputs = seen_inputs g.T.Source.left g.T.Source.faults g.Q.Source.left g.Q.Source.faults c.args.reader.now c.args.trace.now c.args.cert.now c.args.certificate.now in
    let end : Inputs = seen_inputs g.T.Source.left g.T.Source.faults g.Q.Source.left g.Q.Source.faults c.check_with.new.reader c.check_with.new.trace c.check_with.new.cert c.check_with.new.certificate in
    ends_new start end c.requires.fresh_reader c.requires.fresh_cert (g.K.Keeper.has c.check_with.new.keeper) c.in-Ok.verdict c.dropped.result (sym c.dropped.ensures) c.in-Ok.ensures.checked

pub returns-in-Err-clause-no : goal.returns-in-Err-clause-no
returns-in-Err-clause-no g c =
    let start : Inputs = seen_inputs g.T.Source.left g.T.Source.faults g.Q.Source.left g.Q.Source.faults c.args.reader.now c.args.trace.now c.args.cert.now c.args.certificate.now in
    let end : Inputs = seen_inputs g.T.Source.left g.T.Source.faults g.Q.Source.left g.Q.Source.faults c.check_with.new.reader c.check_with.new.trace c.check_with.new.cert c.check_with.new.certificate in
    fails_new start end c.requires.fresh_reader c.requires.fresh_cert (g.K.Keeper.has c.check_with.new.keeper) c.in-Err.fault c.in-Err.ensures.taken c.in-Err.ensures.checked c.in-Err.ensures.else_none_failed

pub check_with-requires-clause-fresh_reader : goal.check_with-requires-clause-fresh_reader
check_with-requires-clause-fresh_reader g c = c.requires.fresh_reader ∙ ap (fresh c.args.reader.now.format) (sym (ap (λ r. r.limits) c.requires.fresh_reader))
