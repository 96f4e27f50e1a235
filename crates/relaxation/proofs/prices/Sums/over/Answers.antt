use Rattle.std.proofs.Common.{ap, subst, arith}
use Rattle.relaxation.specs.Prices.{AreSums}
use Rattle.relaxation.proofs.RunningSums.{sum_between}
use Rattle.relaxation.proofs.prices.Sums.over.Goals as goal

pub overflow_sub-result : goal.overflow_sub-result
overflow_sub-result c =
    let are = subst (λ ps. AreSums ps c.self.inside.sums.items) (ap (λ p. p.prices) c.self.view_is) c.self.invariant.0 in
    omega (arith, sum_between c.args.self.now.prices c.self.inside.sums.items c.args.start c.args.end c.index.result.now c.index-2.result.now are c.requires.0 c.requires.1 c.index.ensures c.index-2.ensures)

pub returns : goal.returns
returns c =
    let are = subst (λ ps. AreSums ps c.self.inside.sums.items) (ap (λ p. p.prices) c.self.view_is) c.self.invariant.0 in
    omega (arith, sum_between c.args.self.now.prices c.self.inside.sums.items c.args.start c.args.end c.index.result.now c.index-2.result.now are c.requires.0 c.requires.1 c.index.ensures c.index-2.ensures)
