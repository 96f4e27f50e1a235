use Rattle.std.proofs.Common.{ap, length, arith}
use Rattle.window_arcs.proofs.OrderLemmas.{numbers_few, order-numbers, order-ranked}
use Rattle.window_arcs.proofs.order.order_of.Goals as goal

pub ranks_of-requires-clause-few : goal.ranks_of-requires-clause-few
ranks_of-requires-clause-few c =
    omega (arith, ap length c.deref.ensures.value, numbers_few c.args.width c.args.whole.now.arcs c.in_ok-numbers.numbers.items c.in_ok-numbers.ensures.all, c.in_ok-numbers.ensures.few)

pub ranks_of-requires-clause-within : goal.ranks_of-requires-clause-within
ranks_of-requires-clause-within c =
    order-numbers c.args.width c.args.whole.now.arcs c.in_ok-numbers.numbers.items c.deref.result.now (length c.arcs.result.now) c.in_ok-numbers.ensures c.deref.ensures.value (ap length c.arcs.ensures.arcs)

pub returns : goal.returns
returns c =
    order-ranked c.args.width c.args.whole.now.arcs c.in_ok-numbers.numbers.items c.deref.result.now c.in_ok-ranks.ranks.items (length c.arcs.result.now) c.in_ok-numbers.ensures c.deref.ensures.value (ap length c.arcs.ensures.arcs) c.in_ok-ranks.ensures
