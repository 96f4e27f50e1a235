use Rattle.std.proofs.Common.{◌≡◌, ◌*◌, ◌^◌, ◌≤◌, length, sum, take}
use Rattle.constant_price.specs.Constants.{constant_prices}
use Rattle.ttl_prices.proofs.sample.sampled_bound.Given as goal

-- each request gained at most 2^96, and the steps so far have the price
abbrev pub invariant-loop-t : goal.invariant-loop-t
invariant-loop-t l = record {
  latest : l.worths.clock ≤ l.clock;
  units : l.worths.units ≡ l.scale.units;
  prices : l.worths.prices ≡ sum (take l.t (constant_prices l.price (length l.trace.objects)));
  gains : l.worths.gains ≤ l.t * 2 ^ 96;
}
