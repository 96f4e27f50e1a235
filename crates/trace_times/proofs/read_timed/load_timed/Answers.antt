use Rattle.std.proofs.Common.{◌≡◌, ◌∙◌, sym, ap, subst, IfSome, Some, []}
use Rattle.trace_any.specs.Readings.{full_limits}
use Rattle.trace_any.specs.Readers.{IsWhole, fresh, known, to_come}
use Rattle.trace_any.proofs.Loads.{loaded_all, nothing_left}
use Rattle.trace_times.proofs.Times.{all_times}
use Rattle.trace_times.proofs.read_timed.load_timed.Goals as goal

pub returns-clause-loaded : goal.returns-clause-loaded
returns-clause-loaded g c =
    let left = g.S.Source.left c.args.source.now in
    let last = c.read_on.new.reader in
    let new = c.in_ok-reader.ensures ∙ ap (fresh c.args.format) c.full.ensures in
    let whole = subst (λ r. IfSome (known r left) (λ bytes. IsWhole (to_come r bytes) c.in_ok-requests.requests last.dropped)) new c.in_ok-requests.ensures.whole in
    let seen_all = subst (λ r. IfSome (known r left) (λ bytes. (to_come r bytes).seen ≡ last.seen)) new c.in_ok-requests.ensures.seen_all in
    let end = subst (λ r. IfSome (known r left) (λ _. known last (g.S.Source.left c.read_on.new.source) ≡ Some [])) new c.in_ok-requests.ensures.end in
    rw c.into_notes.ensures (loaded_all c.args.format _ _ _ _ c.in_ok-requests.requests last.dropped last.seen whole seen_all (nothing_left _ _ last.lines.held end))
