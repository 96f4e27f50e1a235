use Rattle.std.proofs.Common.{◌≡◌, ◌∙◌, sym, ap, subst, IfSome, None, Some, []}
use Rattle.std.proofs.lemmas.Result.{err_from_is_err_and}
use Rattle.bound_io.specs.Devices.{seen}
use Rattle.trace_any.specs.FirstLines.{HasLostThrough}
use Rattle.trace_any.specs.Readings.{full_limits}
use Rattle.trace_any.specs.Readers.{IsNotLoaded, IsWhole, Reader, fresh, known, to_come}
use Rattle.trace_any.proofs.Loads.{loaded_all, nothing_left}
use Rattle.bound_run.proofs.Outcomes.{not_loaded}
use Rattle.bound_run.proofs.loading.load_all.Goals as goal

pub returns-in-Ok-clause-loaded : goal.returns-in-Ok-clause-loaded
returns-in-Ok-clause-loaded g c =
    let reader = c.in_ok-reader.reader in
    let left = g.T.Source.left c.args.trace.now in
    let last = c.load.new.reader in
    let new : reader ≡ fresh c.args.format full_limits = c.in_ok-reader.ensures ∙ ap (fresh c.args.format) c.full.ensures in
    let none : reader.fault ≡ None = ap (λ r. r.fault) new in
    let dropped = rw c.in-Ok.is at c.load.ensures.dropped in
    let whole = subst (λ r. IfSome (known r left) (λ bytes. IsWhole (to_come r bytes) c.in-Ok.requests last.dropped)) new (rw dropped at (rw c.in-Ok.is at (c.load.ensures.whole none))) in
    let seen_all = subst (λ r. IfSome (known r left) (λ bytes. (to_come r bytes).seen ≡ last.seen)) new (rw c.in-Ok.is at (c.load.ensures.seen_all none)) in
    let end = subst (λ r. IfSome (known r left) (λ _. known last (g.T.Source.left c.load.new.source) ≡ Some [])) new (rw c.in-Ok.is at (c.load.ensures.end none)) in
    rw c.into_notes.ensures (loaded_all c.args.format _ _ _ _ c.in-Ok.requests last.dropped last.seen whole seen_all (nothing_left _ _ last.lines.held end))

pub returns-in-Ok-clause-refused : goal.returns-in-Ok-clause-refused
returns-in-Ok-clause-refused g c = tt

pub returns-in-Ok-clause-source : goal.returns-in-Ok-clause-source
returns-in-Ok-clause-source g c = c.load.ensures.reads.source

pub returns-in-Err-clause-loaded : goal.returns-in-Err-clause-loaded
returns-in-Err-clause-loaded g c = tt

pub returns-in-Err-clause-refused : goal.returns-in-Err-clause-refused
returns-in-Err-clause-refused g c =
    let reader = c.in_ok-reader.reader in
    let new : reader ≡ fresh c.args.format full_limits = c.in_ok-reader.ensures ∙ ap (fresh c.args.format) c.full.ensures in
    let none : reader.fault ≡ None = ap (λ r. r.fault) new in
    let why = subst (λ r. IsNotLoaded r (known r (g.T.Source.left c.args.trace.now)) (g.T.Source.faults c.args.trace.now) (g.T.Source.faults c.load.new.source) c.in-Err.fault) new (rw c.in-Err.is at (c.load.ensures.refused none)) in
    let begins : reader ≡ fresh reader.format reader.limits = new ∙ ap (λ (r : Reader). fresh r.format r.limits) (sym new) in
    let lost = subst (λ (r : Reader). HasLostThrough r.format r.limits (seen g.T.Source.left g.T.Source.faults c.args.trace.now c.load.new.source) c.in-Err.fault) new (rw c.in-Err.is at (c.load.ensures.lost begins)) in
    rw c.refusal_of.ensures (not_loaded c.args.format (g.T.Source.left c.args.trace.now) (g.T.Source.left c.load.new.source) _ _ c.in-Err.fault why lost)

pub returns-in-Err-clause-source : goal.returns-in-Err-clause-source
returns-in-Err-clause-source g c = c.load.ensures.reads.source

pub returns-in_err-reader-clause-loaded : goal.returns-in_err-reader-clause-loaded
returns-in_err-reader-clause-loaded g c = rw (err_from_is_err_and c.from_residual.result c.from_residual.ensures.1).1 tt

pub returns-in_err-reader-clause-refused : goal.returns-in_err-reader-clause-refused
returns-in_err-reader-clause-refused g c =
    let p = err_from_is_err_and c.from_residual.result c.from_residual.ensures.1 in
    rw (p.1, p.2) tt

pub returns-in-Ok-clause-none_failed : goal.returns-in-Ok-clause-none_failed
returns-in-Ok-clause-none_failed g c = rw c.in-Ok.is at c.load.ensures.reads.none_failed
