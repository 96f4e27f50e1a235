use Rattle.std.proofs.Common.{◌≡◌}
use Rattle.price_refine.specs.Parts.{AreSumsBeside}
use Rattle.price_refine.proofs.pricing.Pricing.sum_up.Given as goal

abbrev pub invariant-loop-step : goal.invariant-loop-step
invariant-loop-step l = record {
  prices : l.self.prices.items ≡ l.initial.self.prices.items;
  sums : AreSumsBeside l.step l.fn.block.end l.self.prices.items l.self.sums.items;
}
