use Rattle.std.proofs.Common.{take}
use Rattle.relaxation.specs.Divisors.{IsGreatest}
use Rattle.relaxation.proofs.units.divisor_of.Given as goal

abbrev pub invariant-loop-interval : goal.invariant-loop-interval
invariant-loop-interval l = IsGreatest (take l.interval-index l.intervals) l.divisor
