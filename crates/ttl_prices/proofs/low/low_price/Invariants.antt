use Rattle.std.proofs.Common.{◌≤◌}
use Rattle.ttl_prices.specs.Bounds.{bound_of_price}
use Rattle.ttl_prices.proofs.Found.{IsFound}
use Rattle.ttl_prices.proofs.low.low_price.Given as goal

-- no price passes the start, and the bound of none that was tried is lower
abbrev pub invariant-loop-turn : goal.invariant-loop-turn
invariant-loop-turn l = record {
  high : l.search.high ≤ l.start;
  found : IsFound (bound_of_price l.terms l.scale.unit l.scale.denominator l.timed.trace.now l.timed.times.now l.timed.ttl) l.start l.search.lowest;
}
