use Rattle.std.proofs.Common.{◌≡◌, ◌≤◌, vec_len, heap_items}
use Rattle.std.specs.List.{AllByRecursion}
use Rattle.policy_model.specs.States.{used}
use Rattle.replay_rank.specs.AgingEntries.{entries_of, AreOrdered}
use Rattle.replay_rank.specs.AdmittedEntries.{put_again}
use Rattle.replay_rank.proofs.gdsf98.restore.Given as goal

abbrev pub invariant-loop-object : goal.invariant-loop-object
invariant-loop-object l = record {
  again : put_again l.aside.items (entries_of l.holdings) ≡ put_again l.initial.aside.items (entries_of l.initial.holdings);
  some : AllByRecursion (λ a. 1 ≤ a.1.size) l.aside.items;
  in_use : l.in_use ≡ used (entries_of l.holdings);
  ordered : AreOrdered l.holdings (heap_items l.order);
}

abbrev pub decreases-loop-object : goal.decreases-loop-object
decreases-loop-object l = vec_len l.aside
