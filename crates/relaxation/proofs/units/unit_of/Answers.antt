use Rattle.relaxation.proofs.Divisors.{unit_of_timeline_none, unit_of_some, divisor_small}
use Rattle.relaxation.proofs.units.unit_of.Goals as goal

pub returns-then-divisor-eq0-clause-unit : goal.returns-then-divisor-eq0-clause-unit
returns-then-divisor-eq0-clause-unit c = unit_of_timeline_none c.args.intervals.now c.divisor_of-divisor.result c.as_slice.ensures.timeline (rw c.as_slice.ensures.items at c.divisor_of-divisor.ensures) c.if-divisor-eq0.true

pub returns-else-divisor-eq0-clause-unit : goal.returns-else-divisor-eq0-clause-unit
returns-else-divisor-eq0-clause-unit c = unit_of_some c.args.intervals.now.items c.divisor_of-divisor.result (rw c.as_slice.ensures.items at c.divisor_of-divisor.ensures) c.if-divisor-eq0.false

pub returns-else-divisor-eq0-clause-most : goal.returns-else-divisor-eq0-clause-most
returns-else-divisor-eq0-clause-most c = divisor_small c.args.intervals.now c.divisor_of-divisor.result c.as_slice.ensures.timeline (rw c.as_slice.ensures.items at c.divisor_of-divisor.ensures) c.if-divisor-eq0.false
