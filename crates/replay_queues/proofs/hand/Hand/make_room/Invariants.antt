use Rattle.std.proofs.Common.{◌≡◌, ◌≤◌, ℕ, length}
use Rattle.policy_model.specs.Sieve.{look, cut_used}
use Rattle.policy_model.specs.Steps.{until_fits}
use Rattle.policy_model.proofs.SieveSound.{looks_left}
use Rattle.replay_queues.specs.SieveQueues.{cut_at, with_room, IsHand}
use Rattle.replay_queues.proofs.hand.Hand.make_room.Given as goal

abbrev pub invariant-loop-left : goal.invariant-loop-left
invariant-loop-left l = record {
  left : l.left ≡ cut_used (cut_at l.self);
  within : l.left ≤ l.capacity;
  held : IsHand l.self;
  table : length l.self.table ≡ length l.initial.self.table;
  few : length l.self.line.members ≤ length l.initial.self.line.members;
  room : l.self.line.room ≡ l.initial.self.line.room;
  looks : (n : ℕ) × (looks_left (cut_at l.self) ≤ n) × (until_fits look cut_used l.capacity l.size n (cut_at l.self)
      ≡ with_room l.capacity l.size (cut_at l.initial.self));
}

abbrev pub decreases-loop-left : goal.decreases-loop-left
decreases-loop-left l = looks_left (cut_at l.self)
