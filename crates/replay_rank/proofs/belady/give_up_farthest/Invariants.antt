use Rattle.std.proofs.Common.{◌≡◌, heap_items, heap_len}
use Rattle.replay_rank.specs.BeladyEntries.{AreOrdered}
use Rattle.replay_rank.proofs.belady.give_up_farthest.Given as goal

abbrev pub invariant-loop-next : goal.invariant-loop-next
invariant-loop-next l = record {
  same : l.holdings ≡ l.initial.holdings;
  ordered : AreOrdered l.holdings (heap_items l.order);
}

abbrev pub decreases-loop-next : goal.decreases-loop-next
decreases-loop-next l = heap_len l.order
