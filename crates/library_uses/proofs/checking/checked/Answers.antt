use Rattle.std.proofs.Common.{ap, refl, Some}
use Rattle.std.proofs.lemmas.Result.{err_from_is_err_and}
use Rattle.library_uses.proofs.CheckLemmas.{failed_text, passed_text}
use Rattle.library_uses.proofs.checking.checked.Goals as goal

pub returns-in_err-verdict-clause-first : goal.returns-in_err-verdict-clause-first
returns-in_err-verdict-clause-first c =
    let p = err_from_is_err_and c.from_residual.result c.from_residual.ensures.1 in
    let fails = failed_text c.args.trace.items c.args.cert.items (rw c.lasting.ensures at c.in_err-verdict.ensures.no) (ap (λ bytes. Some bytes) c.new-trace.ensures) (ap (λ bytes. Some bytes) c.new-cert.ensures) refl refl in
    rw (p.1, p.2) (fails.0)

pub returns-in_err-verdict-clause-not_certified : goal.returns-in_err-verdict-clause-not_certified
returns-in_err-verdict-clause-not_certified c =
    let p = err_from_is_err_and c.from_residual.result c.from_residual.ensures.1 in
    let fails = failed_text c.args.trace.items c.args.cert.items (rw c.lasting.ensures at c.in_err-verdict.ensures.no) (ap (λ bytes. Some bytes) c.new-trace.ensures) (ap (λ bytes. Some bytes) c.new-cert.ensures) refl refl in
    rw (p.1, p.2) (fails.1)

pub returns-clause-certified : goal.returns-clause-certified
returns-clause-certified c =
    passed_text c.args.trace.items c.args.cert.items (rw c.lasting.ensures at c.in_ok-verdict.ensures.yes) (ap (λ bytes. Some bytes) c.new-trace.ensures) (ap (λ bytes. Some bytes) c.new-cert.ensures)
