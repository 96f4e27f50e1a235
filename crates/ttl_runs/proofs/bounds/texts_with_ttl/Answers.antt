use Rattle.std.proofs.lemmas.Result.{err_from_is_err_and}
use Rattle.ttl_runs.proofs.bounds.texts_with_ttl.Goals as goal

pub returns-in_err-bounds-clause-texts : goal.returns-in_err-bounds-clause-texts
returns-in_err-bounds-clause-texts c = rw (err_from_is_err_and c.from_residual.result c.from_residual.ensures.1).1 tt

pub returns-in_err-bounds-clause-refused : goal.returns-in_err-bounds-clause-refused
returns-in_err-bounds-clause-refused c =
    let p = err_from_is_err_and c.from_residual.result c.from_residual.ensures.1 in
    rw (p.1, p.2) (rw c.asked_of.ensures at c.in_err-bounds.ensures.refused)

pub texts_of-texts-requires : goal.texts_of-texts-requires
texts_of-texts-requires c = record { made = rw c.asked_of.ensures at c.in_ok-bounds.ensures.made }

pub returns-in_err-texts-clause-texts : goal.returns-in_err-texts-clause-texts
returns-in_err-texts-clause-texts c = rw (err_from_is_err_and c.from_residual-in_err-texts.result c.from_residual-in_err-texts.ensures.1).1 tt

pub returns-in_err-texts-clause-refused : goal.returns-in_err-texts-clause-refused
returns-in_err-texts-clause-refused c =
    let p = err_from_is_err_and c.from_residual-in_err-texts.result c.from_residual-in_err-texts.ensures.1 in
    rw (p.1, p.2) tt

pub returns-clause-texts : goal.returns-clause-texts
returns-clause-texts c = c.in_ok-texts.ensures

pub returns-clause-refused : goal.returns-clause-refused
returns-clause-refused c = tt
