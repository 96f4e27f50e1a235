use Rattle.std.proofs.Common.{arith}
use Rattle.flow_windows.proofs.PartCosts.{costs_before, nothing_before}
use Rattle.flow_windows.proofs.parts.cost_before_last.Goals as goal

pub returns-then-first-last-clause-sum : goal.returns-then-first-last-clause-sum
returns-then-first-last-clause-sum c = nothing_before c.args.width c.args.arc.now c.requires.width c.requires.order c.if-first-last.true

pub overflow_mul-result : goal.overflow_mul-result
overflow_mul-result c = omega (arith, (costs_before c.args.width c.args.arc.now c.share_of.result c.share_of-2.result c.requires.width c.requires.order c.if-first-last.false c.share_of.ensures c.share_of-2.ensures).most)

pub overflow_add-result : goal.overflow_add-result
overflow_add-result c = omega (arith, (costs_before c.args.width c.args.arc.now c.share_of.result c.share_of-2.result c.requires.width c.requires.order c.if-first-last.false c.share_of.ensures c.share_of-2.ensures).most)

pub returns-clause-sum : goal.returns-clause-sum
returns-clause-sum c = (costs_before c.args.width c.args.arc.now c.share_of.result c.share_of-2.result c.requires.width c.requires.order c.if-first-last.false c.share_of.ensures c.share_of-2.ensures).sum

pub returns-clause-most : goal.returns-clause-most
returns-clause-most c = (costs_before c.args.width c.args.arc.now c.share_of.result c.share_of-2.result c.requires.width c.requires.order c.if-first-last.false c.share_of.ensures c.share_of-2.ensures).most
