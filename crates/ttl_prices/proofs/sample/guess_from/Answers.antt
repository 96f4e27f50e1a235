use Rattle.std.proofs.Common.{arith, length}
use Rattle.ttl_prices.proofs.Paid.{paid-lower}
use Rattle.ttl_prices.proofs.sample.guess_from.Goals as goal

pub try_sampled-requires-in-loop-turn-clause-paid : goal.try_sampled-requires-in-loop-turn-clause-paid
try_sampled-requires-in-loop-turn-clause-paid c =
    paid-lower c.args.scale.units c.in-Some.price c.args.start (length c.args.timed.now.trace.now.objects)
    (omega (arith, c.in-Some.ensures.high, c.loop-turn.invariant)) c.requires.paid
