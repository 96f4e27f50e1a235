use Rattle.price_refine.specs.Parts.{AreSumsBeside}
use Rattle.price_refine.specs.Rounds.{AreNoWorse, AreOpen, HasSettled, place_of}
use Rattle.price_refine.proofs.round.settle_round.Given as goal

abbrev pub invariant-loop-number : goal.invariant-loop-number
invariant-loop-number l = record {
  no_worse : AreNoWorse l.whole l.items l.initial.pricing.prices.items l.pricing.prices.items;
  settled : HasSettled l.whole l.width l.items l.number l.initial.pricing.prices.items l.pricing.prices.items l.fall;
  open_at : AreOpen (place_of l.whole l.width l.number) l.items l.gathered;
  sums : AreSumsBeside (place_of l.whole l.width l.number) (place_of l.whole l.width l.number) l.pricing.prices.items l.pricing.sums.items;
}
