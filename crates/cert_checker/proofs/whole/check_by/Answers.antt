use Rattle.std.proofs.Common.{refl, ◌≡◌, ◌∙◌, ap, sym}
use Rattle.std.proofs.lemmas.Result.{err_from_is_err_and}
use Rattle.trace_any.specs.Readings.{full_limits}
use Rattle.trace_any.specs.Readers.{fresh}
use Rattle.cert_checker.proofs.FromNew.{fails_memory}
use Rattle.cert_checker.proofs.whole.check_by.Goals as goal

pub returns-in_err-reader-clause-yes : goal.returns-in_err-reader-clause-yes
returns-in_err-reader-clause-yes g c = rw (err_from_is_err_and c.from_residual.result c.from_residual.ensures.1).1 tt

pub returns-in_err-reader-clause-no : goal.returns-in_err-reader-clause-no
returns-in_err-reader-clause-no g c =
    let p = err_from_is_err_and c.from_residual.result c.from_residual.ensures.1 in
    rw (p.1, p.2) (fails_memory _ _ _ refl refl)

pub check_read-requires-clause-fresh_reader : goal.check_read-requires-clause-fresh_reader
check_read-requires-clause-fresh_reader g c =
    let reader = c.in_ok-reader.reader in
    let new : reader ≡ fresh c.args.format full_limits = c.in_ok-reader.ensures ∙ ap (fresh c.args.format) c.full.ensures in
    new ∙ ap (λ f. fresh f full_limits) (sym (ap (λ r. r.format) new))

pub check_read-requires-clause-fresh_cert : goal.check_read-requires-clause-fresh_cert
check_read-requires-clause-fresh_cert g c = c.requires.fresh_cert
