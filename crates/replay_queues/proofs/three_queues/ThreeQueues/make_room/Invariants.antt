use Rattle.std.proofs.Common.{◌≡◌, ◌≤◌, ℕ, length}
use Rattle.policy_model.specs.S3Fifo.{shrink, queues_used}
use Rattle.policy_model.specs.Steps.{until_fits}
use Rattle.policy_model.proofs.S3FifoSound.{turns_left}
use Rattle.replay_queues.specs.ThreeParts.{parts_count}
use Rattle.replay_queues.specs.SmallAndMain.{queues_at, with_space, IsQueued}
use Rattle.replay_queues.proofs.three_queues.ThreeQueues.make_room.Given as goal

abbrev pub invariant-loop-left : goal.invariant-loop-left
invariant-loop-left l = record {
  left : l.left ≡ queues_used (queues_at l.self);
  within : l.left ≤ l.capacity;
  queued : IsQueued l.self;
  table : length l.self.table ≡ length l.initial.self.table;
  few : parts_count l.self.parts ≤ parts_count l.initial.self.parts;
  room : l.self.parts.room ≡ l.initial.self.parts.room;
  turns : (n : ℕ) × (turns_left l.capacity (queues_at l.self) ≤ n) × (until_fits (shrink l.capacity) queues_used l.capacity l.size n (queues_at l.self) ≡ with_space l.capacity l.size (queues_at l.initial.self));
}

abbrev pub decreases-loop-left : goal.decreases-loop-left
decreases-loop-left l = turns_left l.capacity (queues_at l.self)
