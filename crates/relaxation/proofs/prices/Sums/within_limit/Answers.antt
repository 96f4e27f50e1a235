use Rattle.std.proofs.Common.{arith}
use Rattle.relaxation.proofs.RunningSums.{running_within, sums_made}
use Rattle.relaxation.proofs.prices.Sums.within_limit.Goals as goal

pub loop-price-preserved : goal.loop-price-preserved
loop-price-preserved c = record {
  running =
      running_within c.args.prices.now c.args.units c.loop-price.price-index c.loop-price.sum c.loop-price.sums.items c.push_reserved.new.self.items c.requires.units c.requires.within
      c.loop-price-test.true c.loop-price.invariant.running c.push_reserved.ensures.items;
  room = omega (arith, c.push_reserved.ensures.len, c.push_reserved.ensures.capacity, c.loop-price.invariant.room);
}

pub invariant_of-result : goal.invariant_of-result
invariant_of-result c =
    (sums_made c.args.prices.now c.args.units c.loop-price.price-index c.loop-price.sum c.loop-price.sums.items (omega arith) c.loop-price.invariant.running).0

pub returns : goal.returns
returns c = record {
  made = (sums_made c.args.prices.now c.args.units c.loop-price.price-index c.loop-price.sum c.loop-price.sums.items (omega arith) c.loop-price.invariant.running).1;
}
