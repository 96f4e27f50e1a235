use Rattle.std.proofs.Common.{◌≡◌, heap_items}
use Rattle.replay_rank.specs.AgingEntries.{AreOrdered}
use Rattle.replay_rank.proofs.Items.{unsettled}
use Rattle.replay_rank.proofs.AgingOrdered.{by_rank}
use Rattle.replay_rank.proofs.gdsf98.take_least.Given as goal

abbrev pub invariant-loop-rank : goal.invariant-loop-rank
invariant-loop-rank l = record {
  same : l.holdings ≡ l.initial.holdings;
  ordered : AreOrdered l.holdings (heap_items l.order);
}

abbrev pub decreases-loop-rank : goal.decreases-loop-rank
decreases-loop-rank l = unsettled by_rank l.holdings (heap_items l.order)
