use Rattle.std.proofs.Common.{◌+◌, ◌*◌, ◌∙◌, ap, subst, sym, length}
use Rattle.ttl_sums.specs.Walked.{HasWalked}
use Rattle.ttl_sums.specs.contracts.worths.TtlWorths.{the_view}
use Rattle.ttl_sums.proofs.Sums.{bound-is}
use Rattle.ttl_sums.proofs.worths.TtlWorths.bound.Goals as goal

pub returns-clause-bound : goal.returns-clause-bound
returns-clause-bound c p short h =
    ap (λ u. u * c.self.inside.prices + c.self.inside.total) c.from.ensures
    ∙ bound-is p (the_view c.self.inside) short c.self.invariant (subst (HasWalked p (length p.trace) (length p.trace)) (sym c.self.view_is) h)
