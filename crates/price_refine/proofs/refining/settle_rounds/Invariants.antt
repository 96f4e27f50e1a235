use Rattle.std.proofs.Common.{◌≡◌}
use Rattle.price_refine.specs.Parts.{bound_in}
use Rattle.price_refine.specs.Rounds.{AreNoWorse, CanSettle}
use Rattle.price_refine.proofs.refining.settle_rounds.Given as goal

abbrev pub invariant-loop-round : goal.invariant-loop-round
invariant-loop-round l = record {
  no_worse : AreNoWorse l.whole l.items l.initial.pricing.prices.items l.pricing.prices.items;
  ready : CanSettle l.whole l.width l.items l.pricing;
  bound : l.bound ≡ bound_in l.whole l.items l.pricing.prices.items;
}
