use Rattle.std.proofs.Common.{refl}
use Rattle.std.proofs.lemmas.Result.{err_from_is_err_and}
use Rattle.cert_checker.proofs.FromNew.{fails_memory}
use Rattle.cert_checker.proofs.keeping.keep_all.Goals as goal

pub returns-in_err-builder_of-clause-no : goal.returns-in_err-builder_of-clause-no
returns-in_err-builder_of-clause-no g c =
    let p = err_from_is_err_and c.from_residual.result c.from_residual.ensures.1 in
    rw (p.1, p.2) (fails_memory _ _ _ refl refl)
