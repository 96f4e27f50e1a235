use Rattle.std.proofs.Common.{arith, length}
use Rattle.ttl_prices.proofs.Paid.{paid-lower}
use Rattle.ttl_prices.proofs.low.low_price.Goals as goal

pub try_price-requires-in-loop-turn-clause-paid : goal.try_price-requires-in-loop-turn-clause-paid
try_price-requires-in-loop-turn-clause-paid c =
    paid-lower c.args.scale.units c.in-Some.price c.args.start (length c.args.timed.now.trace.now.objects)
    (omega (arith, c.in-Some.ensures.high, c.loop-turn.invariant.high)) c.requires.paid

pub returns-in_default-clause-paid : goal.returns-in_default-clause-paid
returns-in_default-clause-paid c =
    paid-lower c.args.scale.units c.loop-turn.search.lowest.price c.args.start (length c.args.timed.now.trace.now.objects)
    c.loop-turn.invariant.found.price c.requires.paid

pub returns-clause-paid : goal.returns-clause-paid
returns-clause-paid c =
    paid-lower c.args.scale.units c.loop-turn.search.lowest.price c.args.start (length c.args.timed.now.trace.now.objects)
    c.loop-turn.invariant.found.price c.requires.paid
