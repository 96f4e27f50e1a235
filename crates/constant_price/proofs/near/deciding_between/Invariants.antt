use Rattle.std.proofs.Common.{◌≡◌, ℕ, ◌+◌, ◌*◌, ◌^◌, ◌≤◌, All, length, take}
use Rattle.interval_maker.specs.Timelines.{IsInterval}
use Rattle.constant_price.specs.Surpluses.{fall_of}
use Rattle.constant_price.proofs.near.deciding_between.Given as goal

abbrev pub invariant-loop-interval : goal.invariant-loop-interval
invariant-loop-interval l = record {
  falls : (q : ℕ) → l.low ≤ q → q ≤ l.high → fall_of l.unit l.denominator q (take l.interval-index l.intervals) ≡ l.steady + fall_of l.unit l.denominator q l.found.items;
  few : length l.found.items ≤ l.interval-index;
  intervals : All (IsInterval (2 ^ 25)) l.found.items;
  fits : l.steady ≤ l.interval-index * 2 ^ 96;
}
