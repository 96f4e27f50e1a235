use Rattle.std.proofs.Common.{arith}
use Rattle.price_refine.proofs.SumsBeside.{is_outside, outside_is, outside-small}
use Rattle.price_refine.proofs.pricing.Pricing.outside.Goals as goal

pub between-before-requires : goal.between-before-requires
between-before-requires c =
    let is = is_outside c.args.block c.args.interval.now c.args.self.now.prices.items c.args.self.now.sums.items c.requires.sums c.requires.order c.requires.within c.requires.met.1 in
    rw c.deref.ensures.value (λ low. (omega (arith, c.requires.sums.one_more), omega (arith, is.before low)))

pub between-behind-requires : goal.between-behind-requires
between-behind-requires c =
    let is = is_outside c.args.block c.args.interval.now c.args.self.now.prices.items c.args.self.now.sums.items c.requires.sums c.requires.order c.requires.within c.requires.met.1 in
    rw c.deref-2.ensures.value (λ high. (omega (arith, c.requires.sums.one_more), omega (arith, is.behind high)))

pub overflow_add-result : goal.overflow_add-result
overflow_add-result c =
    let prices = c.args.self.now.prices.items in
    let sums = c.args.self.now.sums.items in
    let is = is_outside c.args.block c.args.interval.now prices sums c.requires.sums c.requires.order c.requires.within c.requires.met.1 in
    let before = rw c.deref.ensures.value at c.between-before.ensures in
    let behind = rw c.deref-2.ensures.value at c.between-behind.ensures in
    omega (
      arith,
      outside_is c.args.block c.args.interval.now prices sums c.between-before.result c.between-behind.result is before behind,
      outside-small c.args.block c.args.interval.now prices c.requires.order,
      c.requires.small,
    )

pub returns : goal.returns
returns c =
    let prices = c.args.self.now.prices.items in
    let sums = c.args.self.now.sums.items in
    let is = is_outside c.args.block c.args.interval.now prices sums c.requires.sums c.requires.order c.requires.within c.requires.met.1 in
    let before = rw c.deref.ensures.value at c.between-before.ensures in
    let behind = rw c.deref-2.ensures.value at c.between-behind.ensures in
    outside_is c.args.block c.args.interval.now prices sums c.between-before.result c.between-behind.result is before behind
