use Rattle.std.proofs.Common.{◌≡◌, ℕ, ◌^◌, ◌<◌, ◌≤◌}
use Rattle.constant_price.specs.Surpluses.{fall_of}
use Rattle.constant_price.proofs.near.bracket_around.Given as goal

abbrev pub invariant-loop-turn : goal.invariant-loop-turn
invariant-loop-turn l = record {
  low : (q : ℕ) → q < l.found.low → l.growth < fall_of l.unit l.denominator q l.intervals;
  high : fall_of l.unit l.denominator l.found.high l.intervals ≤ l.growth;
  top : l.found.high ≤ 2 ^ 96;
  price : l.price < 2 ^ 96;
}
