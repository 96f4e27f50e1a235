use Rattle.std.proofs.Common.{◌≡◌, ◌-◌, ◌^◌, ◌<◌, ◌≤◌}
use Rattle.constant_price.specs.Surpluses.{fall_of}
use Rattle.constant_price.proofs.search.least_within.Given as goal

abbrev pub invariant-search : goal.invariant-search
invariant-search l = record {
  order : l.low.price < l.high.price;
  above : l.growth < l.low.fall;
  low_fall : l.low.fall ≡ fall_of l.unit l.denominator l.low.price l.intervals;
  high_price : l.high.price ≤ 2 ^ 96;
  within : l.high.fall ≤ l.growth;
  high_fall : fall_of l.unit l.denominator l.high.price l.intervals ≤ l.growth;
}

abbrev pub decreases-search : goal.decreases-search
decreases-search l = l.high.price - l.low.price
