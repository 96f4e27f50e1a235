use Rattle.std.proofs.Common.{◌≡◌, ◌≤◌, ◌*◌, ◌+◌, ◌^◌, sum, sum_by, take}
use Rattle.cache_model.specs.Intervals.{surplus}
use Rattle.relaxation.proofs.prices.bound_of.Given as goal

abbrev pub invariant-loop-interval : goal.invariant-loop-interval
invariant-loop-interval l = record {
  value : l.total ≡ l.units * sum l.sums.prices + sum_by (surplus l.unit l.denominator l.sums.prices) (take l.interval-index l.interval-items);
  small : l.total ≤ 2 ^ 126 + l.interval-index * 2 ^ 96;
}
