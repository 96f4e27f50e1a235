use Rattle.std.proofs.Common.{◌∙◌, ap}
use Rattle.trace_any.proofs.Stopping.{stands_as}
use Rattle.trace_any.proofs.requests.RequestReader.next.Goals as goal

pub returns-in-Err-clause-no_further : goal.returns-in-Err-clause-no_further
returns-in-Err-clause-no_further g c = λ _.
    let old = c.args.self.now in
    let kept = c.refuse_rest.ensures.kept in
    let is = c.self.view_is in
    rw (c.refuse_rest.ensures.fault) (tt, stands_as old c.refuse_rest.new.self (g.S.Source.left c.args.source.now) (ap (λ r. r.lines) kept ∙ ap (λ r. r.lines) is) (ap (λ r. r.dropped) kept ∙ ap (λ r. r.dropped) is))
