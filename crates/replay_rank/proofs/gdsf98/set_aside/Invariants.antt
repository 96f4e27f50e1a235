use Rattle.std.proofs.Common.{◌≡◌, ◌≤◌, length, heap_items}
use Rattle.std.specs.List.{AllByRecursion}
use Rattle.policy_model.specs.States.{used}
use Rattle.replay_rank.specs.AgingEntries.{entries_of, AreOrdered}
use Rattle.replay_rank.specs.AdmittedEntries.{put_again, stock_freed}
use Rattle.replay_rank.proofs.gdsf98.set_aside.Given as goal

abbrev pub invariant-loop-left : goal.invariant-loop-left
invariant-loop-left l = record {
  left : l.left.used ≡ used (entries_of l.holdings);
  within : l.left.used ≤ l.capacity;
  low : l.left.floor ≤ l.most;
  ordered : AreOrdered l.holdings (heap_items l.order);
  again : put_again l.aside.items (entries_of l.holdings) ≡ entries_of l.initial.holdings;
  some : AllByRecursion (λ a. 1 ≤ a.1.size) l.aside.items;
  turns : stock_freed l.left.floor l.capacity l.size l.holdings ≡ stock_freed l.initial.left.floor l.capacity l.size l.initial.holdings;
}

abbrev pub decreases-loop-left : goal.decreases-loop-left
decreases-loop-left l = length l.holdings
