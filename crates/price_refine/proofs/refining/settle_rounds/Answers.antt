use Rattle.std.proofs.Common.{arith, subst}
use Rattle.price_refine.specs.Rounds.{IsRound}
use Rattle.price_refine.proofs.AllSettled.{all_settled_round, worse_through}
use Rattle.price_refine.proofs.BlockPlaces.{worse_none}
use Rattle.price_refine.proofs.refining.settle_rounds.Goals as goal

pub loop-round-init : goal.loop-round-init
loop-round-init c = record { no_worse = worse_none c.args.whole c.args.items.now c.args.pricing.now.prices.items; ready = c.requires.ready; bound = c.requires.bound }

pub loop-round-preserved : goal.loop-round-preserved
loop-round-preserved c = record {
  no_worse = worse_through c.args.whole c.args.items.now c.args.pricing.now.prices.items c.loop-round.pricing.prices.items c.settle_round.new.pricing.prices.items c.loop-round.invariant.no_worse c.in_ok-fall.ensures.no_worse;
  ready = c.in_ok-fall.ensures.ready;
  bound = omega (arith, c.loop-round.invariant.bound, c.in_ok-fall.ensures.settled.falls);
}

pub overflow_sub-bound : goal.overflow_sub-bound
overflow_sub-bound c = omega (arith, c.loop-round.invariant.bound, c.in_ok-fall.ensures.settled.falls)

pub returns-then-fall-eq0-clause-no_worse : goal.returns-then-fall-eq0-clause-no_worse
returns-then-fall-eq0-clause-no_worse c =
    worse_through c.args.whole c.args.items.now c.args.pricing.now.prices.items c.loop-round.pricing.prices.items c.settle_round.new.pricing.prices.items c.loop-round.invariant.no_worse c.in_ok-fall.ensures.no_worse

pub returns-then-fall-least-clause-no_worse : goal.returns-then-fall-least-clause-no_worse
returns-then-fall-least-clause-no_worse c =
    worse_through c.args.whole c.args.items.now c.args.pricing.now.prices.items c.loop-round.pricing.prices.items c.settle_round.new.pricing.prices.items c.loop-round.invariant.no_worse c.in_ok-fall.ensures.no_worse

pub returns-then-fall-eq0-clause-settled : goal.returns-then-fall-eq0-clause-settled
returns-then-fall-eq0-clause-settled c = λ done.
    let old = c.loop-round.pricing.prices.items in
    let new = c.settle_round.new.pricing.prices.items in
    let ready = c.in_ok-fall.ensures.ready in
    all_settled_round c.args.whole c.args.width c.args.items.now old new ready.some_width ready.to_last
    (subst (IsRound c.args.whole c.args.width c.args.items.now old new) c.if-fall-eq0.true c.in_ok-fall.ensures.settled)
