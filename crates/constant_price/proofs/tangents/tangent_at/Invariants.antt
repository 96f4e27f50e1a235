use Rattle.std.proofs.Common.{◌≡◌, ◌*◌, ◌^◌, ◌≤◌, take}
use Rattle.constant_price.specs.Surpluses.{surplus_of, fall_of}
use Rattle.constant_price.proofs.tangents.tangent_at.Given as goal

abbrev pub invariant-loop-interval : goal.invariant-loop-interval
invariant-loop-interval l = record {
  surplus : l.surplus ≡ surplus_of l.unit l.denominator l.price (take l.interval-index l.intervals);
  surplus_fits : l.surplus ≤ l.interval-index * 2 ^ 96;
  fall : l.fall ≡ fall_of l.unit l.denominator l.price (take l.interval-index l.intervals);
  fall_fits : l.fall ≤ l.interval-index * 2 ^ 96;
}
