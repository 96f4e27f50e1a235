use Rattle.interval_maker.specs.Timelines.{no_interval}
use Rattle.relaxation.proofs.Divisors.{one_more_size, whole_greatest}
use Rattle.relaxation.proofs.units.divisor_of.Goals as goal

pub loop-interval-preserved : goal.loop-interval-preserved
loop-interval-preserved c =
    one_more_size c.args.intervals.now c.loop-interval.interval-index no_interval c.loop-interval.divisor c.gcd-divisor.result c.loop-interval-test.true c.loop-interval.invariant c.gcd-divisor.ensures

pub returns : goal.returns
returns c = whole_greatest c.args.intervals.now c.loop-interval.interval-index c.loop-interval.divisor c.loop-interval-test.false c.loop-interval.invariant
