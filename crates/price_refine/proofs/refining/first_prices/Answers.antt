use Rattle.std.proofs.Common.{arith, ap}
use Rattle.price_refine.specs.Parts.{bound_in}
use Rattle.price_refine.proofs.AllSettled.{zeros-bound}
use Rattle.price_refine.proofs.refining.first_prices.Goals as goal

pub returns-then-without-upper-clause-small : goal.returns-then-without-upper-clause-small
returns-then-without-upper-clause-small c =
    let none = zeros-bound c.args.intervals.now c.args.whole c.steps.result c.in_ok-none.none.items c.steps.ensures.timeline c.requires.denominator c.in_ok-none.ensures in
    let without = ap (bound_in c.args.whole c.args.intervals.now.items) c.deref.ensures.value in
    omega (arith, none, without, c.in_ok-without.ensures)

pub returns-clause-small : goal.returns-clause-small
returns-clause-small c =
    let none = zeros-bound c.args.intervals.now c.args.whole c.steps.result c.in_ok-none.none.items c.steps.ensures.timeline c.requires.denominator c.in_ok-none.ensures in
    let without = ap (bound_in c.args.whole c.args.intervals.now.items) c.deref.ensures.value in
    omega (arith, none, without, c.in_ok-without.ensures, c.if-without-upper.false)
