use Rattle.std.proofs.Common.{◌≡◌, ◌∙◌, ◌^◌, ap, arith, length, sum, subst, List, ℕ}
use Rattle.std.proofs.Math.Nat.{mul-le-mul_left}
use Rattle.flow_model.specs.Instances.{Instance, IsLeast, value_at}
use Rattle.std.specs.Prelude.{nat_lt}
use Rattle.price_refine.specs.Parts.{IsChoice, block_instance}
use Rattle.price_refine.proofs.ArcValues.{paid-small}
use Rattle.price_refine.proofs.Exchange.{prices_of}
use Rattle.price_refine.proofs.Choosing.{beside_replaced, choice-small}
use Rattle.price_refine.proofs.Ranges.{found-paid, worths}
use Rattle.price_refine.proofs.Solved.{settling}
use Rattle.price_refine.proofs.SumsBeside.{slice-small}
use Rattle.price_refine.proofs.settling.settle.Goals as goal

pub value_at-requires-clause-paid : goal.value_at-requires-clause-paid
value_at-requires-clause-paid c =
    let prices = c.args.pricing.now.prices.items in
    let units = ap (λ i. i.units) c.in_ok-instance.ensures in
    rw (units, c.deref.ensures.value) (omega (arith, c.requires.paid, mul-le-mul_left c.args.block.units (slice-small prices c.args.block.first c.args.block.end)))

pub value_at-requires-clause-worths : goal.value_at-requires-clause-worths
value_at-requires-clause-worths c =
    rw c.in_ok-instance.ensures (worths (length c.args.pricing.now.prices.items) c.args.block c.args.pricing.now.prices.items c.args.intervals.now c.requires.block c.requires.counted)

pub value_at-requires-2-clause-paid : goal.value_at-requires-2-clause-paid
value_at-requires-2-clause-paid c =
    let steps = length c.args.pricing.now.prices.items in
    let prices = c.args.pricing.now.prices.items in
    let made : c.in_ok-instance.instance ≡ block_instance c.args.block prices c.args.intervals.now = c.in_ok-instance.ensures in
    let paid = found-paid steps c.args.block prices c.args.intervals.now c.in_ok-instance.instance c.in_ok-solution.solution.prices made c.requires.block c.requires.counted c.in_ok-solution.ensures.paid in
    rw c.prices.ensures (omega (arith, paid))

pub value_at-requires-2-clause-worths : goal.value_at-requires-2-clause-worths
value_at-requires-2-clause-worths c =
    rw c.in_ok-instance.ensures (worths (length c.args.pricing.now.prices.items) c.args.block c.args.pricing.now.prices.items c.args.intervals.now c.requires.block c.requires.counted)

pub sum_up-requires-clause-sums : goal.sum_up-requires-clause-sums
sum_up-requires-clause-sums c =
    rw c.keep_better.ensures.sums
    (beside_replaced c.args.block c.args.pricing.now.prices.items c.keep_better.new.pricing.prices.items c.args.pricing.now.sums.items c.keep_better.ensures.prices.agree c.requires.block.order c.requires.sums)

pub sum_up-requires-clause-small : goal.sum_up-requires-clause-small
sum_up-requires-clause-small c =
    let steps = length c.args.pricing.now.prices.items in
    let prices = c.args.pricing.now.prices.items in
    let found = c.in_ok-solution.solution.prices in
    let made : c.in_ok-instance.instance ≡ block_instance c.args.block prices c.args.intervals.now = c.in_ok-instance.ensures in
    let paid = found-paid steps c.args.block prices c.args.intervals.now c.in_ok-instance.instance found made c.requires.block c.requires.counted c.in_ok-solution.ensures.paid in
    let units = ap (λ (i : Instance). i.units) made in
    let choice : IsChoice c.args.block prices found (nat_lt c.in_ok-new_value.new_value c.in_ok-old_value.old_value) c.keep_better.new.pricing.prices.items = rw (← c.prices-2.ensures) c.keep_better.ensures.prices in
    omega (
      arith,
      choice-small c.args.block prices found c.keep_better.new.pricing.prices.items (nat_lt c.in_ok-new_value.new_value c.in_ok-old_value.old_value) (2 ^ 126) choice c.requires.block.order
          (omega (arith, c.requires.block.within)) (paid-small c.args.block.units (sum prices) (2 ^ 126) c.requires.block.some_units c.requires.paid),
      paid-small c.in_ok-instance.instance.units (sum found) (2 ^ 122) (omega (arith, units, c.requires.block.some_units)) paid,
    )

pub returns-clause-settled : goal.returns-clause-settled
returns-clause-settled c = λ all same counted.
    let prices = c.args.pricing.now.prices.items in
    let found = c.in_ok-solution.solution.prices in
    let made : c.in_ok-instance.instance ≡ block_instance c.args.block prices c.args.intervals.now = c.in_ok-instance.ensures in
    let choice : IsChoice c.args.block prices found (nat_lt c.in_ok-new_value.new_value c.in_ok-old_value.old_value) c.keep_better.new.pricing.prices.items = rw (← c.prices-2.ensures) c.keep_better.ensures.prices in
    let least : IsLeast (block_instance c.args.block prices c.args.intervals.now) found = subst (λ (i : Instance). IsLeast i found) made c.in_ok-solution.ensures.least in
    let old : c.in_ok-old_value.old_value ≡ value_at (block_instance c.args.block prices c.args.intervals.now) (prices_of c.args.block prices) =
    c.in_ok-old_value.ensures ∙ ap (λ (ps : List ℕ). value_at c.in_ok-instance.instance (prices_of c.args.block ps)) c.deref.ensures.value
    ∙ ap (λ (i : Instance). value_at i (prices_of c.args.block prices)) made in
    let new : c.in_ok-new_value.new_value ≡ value_at (block_instance c.args.block prices c.args.intervals.now) found =
    c.in_ok-new_value.ensures ∙ ap (λ (ps : List ℕ). value_at c.in_ok-instance.instance ps) c.prices.ensures ∙ ap (λ (i : Instance). value_at i found) made in
    rw (c.sum_up.ensures.prices, c.saturating_sub.ensures)
    (settling c.args.block all c.args.intervals.now prices c.keep_better.new.pricing.prices.items found c.in_ok-old_value.old_value c.in_ok-new_value.new_value c.requires.block counted same least old new choice)
