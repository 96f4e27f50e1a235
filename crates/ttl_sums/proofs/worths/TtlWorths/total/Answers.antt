use Rattle.std.proofs.Common.{subst, sym}
use Rattle.ttl_sums.specs.Walked.{HasWalked}
use Rattle.ttl_sums.specs.contracts.worths.TtlWorths.{the_view}
use Rattle.ttl_sums.proofs.Sums.{total-is}
use Rattle.ttl_sums.proofs.worths.TtlWorths.total.Goals as goal

pub returns : goal.returns
returns c p n steps h = total-is p n steps (the_view c.self.inside) c.self.invariant (subst (HasWalked p n steps) (sym c.self.view_is) h)
