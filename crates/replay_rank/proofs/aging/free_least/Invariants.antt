use Rattle.std.proofs.Common.{◌≡◌, ◌≤◌, length, heap_items}
use Rattle.policy_model.specs.States.{used}
use Rattle.policy_model.specs.Steps.{until_fits}
use Rattle.policy_model.specs.Aging.{age, over_floor, stock_used}
use Rattle.replay_rank.specs.AgingEntries.{entries_of, AreOrdered}
use Rattle.replay_rank.proofs.aging.free_least.Given as goal

abbrev pub invariant-loop-left : goal.invariant-loop-left
invariant-loop-left l = record {
  left : l.left.used ≡ used (entries_of l.holdings);
  within : l.left.used ≤ l.capacity;
  ordered : AreOrdered l.holdings (heap_items l.order);
  turns : until_fits age stock_used l.capacity l.size (length l.holdings) (over_floor l.left.floor (entries_of l.holdings))
      ≡ until_fits age stock_used l.capacity l.size (length l.initial.holdings) (over_floor l.initial.left.floor (entries_of l.initial.holdings));
}

abbrev pub decreases-loop-left : goal.decreases-loop-left
decreases-loop-left l = length l.holdings
