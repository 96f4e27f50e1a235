use Rattle.std.proofs.Common.{refl}
use Rattle.std.proofs.lemmas.Result.{err_from_is_err_and}
use Rattle.cert_checker.proofs.FromNew.{fails_memory}
use Rattle.cert_checker.proofs.whole.check_new.Goals as goal

pub returns-in_err-cert-clause-yes : goal.returns-in_err-cert-clause-yes
returns-in_err-cert-clause-yes g c = rw (err_from_is_err_and c.from_residual.result c.from_residual.ensures.1).1 tt

pub returns-in_err-cert-clause-no : goal.returns-in_err-cert-clause-no
returns-in_err-cert-clause-no g c =
    let p = err_from_is_err_and c.from_residual.result c.from_residual.ensures.1 in
    rw (p.1, p.2) (fails_memory _ _ _ refl refl)
