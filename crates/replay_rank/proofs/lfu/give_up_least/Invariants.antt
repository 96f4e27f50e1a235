use Rattle.std.proofs.Common.{◌≡◌, heap_items}
use Rattle.replay_rank.specs.LfuEntries.{AreOrdered}
use Rattle.replay_rank.proofs.Items.{unsettled}
use Rattle.replay_rank.proofs.LfuOrdered.{by_use}
use Rattle.replay_rank.proofs.lfu.give_up_least.Given as goal

abbrev pub invariant-loop-rank : goal.invariant-loop-rank
invariant-loop-rank l = record {
  same : l.holdings ≡ l.initial.holdings;
  ordered : AreOrdered l.holdings (heap_items l.order);
}

abbrev pub decreases-loop-rank : goal.decreases-loop-rank
decreases-loop-rank l = unsettled by_use l.holdings (heap_items l.order)
