use Rattle.std.proofs.lemmas.Result.{err_from_is_err_and}
use Rattle.bound_run.proofs.bounds.texts_of.Goals as goal

pub returns-in_err-bounds-clause-texts : goal.returns-in_err-bounds-clause-texts
returns-in_err-bounds-clause-texts c = rw (err_from_is_err_and c.from_residual.result c.from_residual.ensures.1).1 tt

pub returns-in_err-bounds-clause-refused : goal.returns-in_err-bounds-clause-refused
returns-in_err-bounds-clause-refused c =
    let p = err_from_is_err_and c.from_residual.result c.from_residual.ensures.1 in
    rw (p.1, p.2) c.in_err-bounds.ensures.refused

pub texts_with-texts-requires-clause-made : goal.texts_with-texts-requires-clause-made
texts_with-texts-requires-clause-made c = c.in_ok-bounds.ensures.made

pub texts_with-texts-requires-clause-intervals : goal.texts_with-texts-requires-clause-intervals
texts_with-texts-requires-clause-intervals c = c.in_ok-bounds.ensures.intervals

pub texts_with-texts-requires-clause-each : goal.texts_with-texts-requires-clause-each
texts_with-texts-requires-clause-each c = c.in_ok-bounds.ensures.each

pub returns-in_err-texts-clause-texts : goal.returns-in_err-texts-clause-texts
returns-in_err-texts-clause-texts c = rw (err_from_is_err_and c.from_residual-in_err-texts.result c.from_residual-in_err-texts.ensures.1).1 tt

pub returns-in_err-texts-clause-refused : goal.returns-in_err-texts-clause-refused
returns-in_err-texts-clause-refused c =
    let p = err_from_is_err_and c.from_residual-in_err-texts.result c.from_residual-in_err-texts.ensures.1 in
    rw (p.1, p.2) tt

pub returns-clause-texts : goal.returns-clause-texts
returns-clause-texts c = c.in_ok-texts.ensures

pub returns-clause-refused : goal.returns-clause-refused
returns-clause-refused c = tt
