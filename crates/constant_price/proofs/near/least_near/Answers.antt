use Rattle.std.proofs.Common.{arith}
use Rattle.constant_price.proofs.Bracketed.{near-first, near-within}
use Rattle.constant_price.proofs.near.least_near.Goals as goal

pub returns-clause-within : goal.returns-clause-within
returns-clause-within c =
    near-within c.args.unit c.args.denominator c.args.intervals.now c.in_ok-found.found.intervals.items c.args.growth c.in_ok-found.found.steady
    c.bracket_around-low.result.low c.bracket_around-low.result.high c.least_within-price.result c.if-high-low.false c.if-found-growth.false
    c.in_ok-found.ensures.falls c.bracket_around-low.ensures.low c.bracket_around-low.ensures.high
    (rw c.deref.ensures.value at c.least_within-price.ensures.within) (rw c.deref.ensures.value at c.least_within-price.ensures.first) c.clamp.result (omega (arith, c.clamp.ensures, c.if-high-low.false))

pub returns-clause-first : goal.returns-clause-first
returns-clause-first c =
    near-first c.args.unit c.args.denominator c.args.intervals.now c.in_ok-found.found.intervals.items c.args.growth c.in_ok-found.found.steady
    c.bracket_around-low.result.low c.bracket_around-low.result.high c.least_within-price.result c.if-high-low.false c.if-found-growth.false
    c.in_ok-found.ensures.falls c.bracket_around-low.ensures.low c.bracket_around-low.ensures.high
    (rw c.deref.ensures.value at c.least_within-price.ensures.within) (rw c.deref.ensures.value at c.least_within-price.ensures.first) c.clamp.result (omega (arith, c.clamp.ensures, c.if-high-low.false))
