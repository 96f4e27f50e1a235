use Rattle.std.proofs.Common.{◌∙◌, ◌+◌, arith}
use Rattle.std.proofs.lemmas.List.{get_or_default}
use Rattle.price_refine.proofs.SumsBeside.{sum_more, sum_more-small}
use Rattle.price_refine.proofs.pricing.Pricing.sum_up.Goals as goal

pub overflow_add-index : goal.overflow_add-index
overflow_add-index c =
    let now = c.loop-step.self in
    let sums = c.loop-step.invariant.sums in
    let within = rw (← c.loop-step.invariant.prices) at c.requires.within in
    let small = rw (← c.loop-step.invariant.prices) at c.requires.small in
    let sum = c.index.ensures ∙ get_or_default now.sums.items c.loop-step.step _ 0 (omega (arith, sums.one_more)) in
    let price = c.index-in-loop-step.ensures ∙ get_or_default now.prices.items c.loop-step.step _ 0 (omega arith) in
    omega (arith, sum, price, small, sum_more-small c.loop-step.step c.args.block.end now.prices.items now.sums.items sums c.loop-step-test.true within)

pub loop-step-preserved : goal.loop-step-preserved
loop-step-preserved c =
    let now = c.loop-step.self in
    let sums = c.loop-step.invariant.sums in
    let within = rw (← c.loop-step.invariant.prices) at c.requires.within in
    let sum = c.index.ensures ∙ get_or_default now.sums.items c.loop-step.step _ 0 (omega (arith, sums.one_more)) in
    let price = c.index-in-loop-step.ensures ∙ get_or_default now.prices.items c.loop-step.step _ 0 (omega arith) in
    record {
      prices = c.loop-step.invariant.prices;
      sums = sum_more c.loop-step.step c.args.block.end now.prices.items now.sums.items (c.index.result.now + c.index-in-loop-step.result.now) sums c.loop-step-test.true within (omega (arith, sum, price));
    }
