use Rattle.std.proofs.Common.{arith, refl}
use Rattle.price_refine.proofs.AllSettled.{all_settled_whole}
use Rattle.price_refine.proofs.BlockPlaces.{worse_more}
use Rattle.price_refine.proofs.SumsBeside.{beside_last}
use Rattle.price_refine.proofs.refining.settle_all.Goals as goal

pub settle-requires-clause-sums : goal.settle-requires-clause-sums
settle-requires-clause-sums c =
    let ready = c.in_ok-settle_rounds.ensures.ready in
    beside_last c.args.whole.end c.args.whole.first c.args.whole.first c.settle_rounds.new.pricing.prices.items c.settle_rounds.new.pricing.sums.items ready.sums (omega (arith, ready.to_last))

pub returns-clause-no_worse : goal.returns-clause-no_worse
returns-clause-no_worse c =
    let were = c.in_ok-settle_rounds.ensures in
    worse_more c.args.whole c.args.whole c.args.items.now c.args.pricing.now.prices.items c.settle_rounds.new.pricing.prices.items c.settle.new.pricing.prices.items c.in_ok-fall.fall were.no_worse
    (c.in_ok-fall.ensures.settled c.args.items.now refl were.ready.counted) (omega arith) (λ prices. refl)

pub overflow_sub-result : goal.overflow_sub-result
overflow_sub-result c =
    let were = c.in_ok-settle_rounds.ensures in
    omega (arith, were.bound, (c.in_ok-fall.ensures.settled c.args.items.now refl were.ready.counted).falls)

pub returns-clause-bound : goal.returns-clause-bound
returns-clause-bound c =
    let were = c.in_ok-settle_rounds.ensures in
    omega (arith, were.bound, (c.in_ok-fall.ensures.settled c.args.items.now refl were.ready.counted).falls)

pub returns-clause-settled : goal.returns-clause-settled
returns-clause-settled c =
    let ready = c.in_ok-settle_rounds.ensures.ready in
    let settling = c.in_ok-fall.ensures.settled c.args.items.now refl ready.counted in
    all_settled_whole c.args.whole c.args.width c.args.items.now c.settle.new.pricing.prices.items ready.from_first (omega (arith, settling.agree.steps, ready.to_last)) settling.settled

pub returns-then-branch-clause-settled : goal.returns-then-branch-clause-settled
returns-then-branch-clause-settled c = c.in_ok-settle_rounds.ensures.settled c.if-branch.true
