use Rattle.std.proofs.Common.{◌≡◌, ◌≤◌, ℕ, length}
use Rattle.policy_model.specs.S3Fifo.{shrink_main, turns_of, queues_used}
use Rattle.replay_queues.specs.ThreeParts.{parts_count}
use Rattle.replay_queues.specs.SmallAndMain.{queues_at, IsQueued}
use Rattle.replay_queues.proofs.three_queues.ThreeQueues.shrink_main.Given as goal

abbrev pub invariant-loop-object : goal.invariant-loop-object
invariant-loop-object l = record {
  queued : IsQueued l.self;
  small : (queues_at l.self).small ≡ (queues_at l.initial.self).small;
  ghosts : l.self.parts.ghosts ≡ l.initial.self.parts.ghosts;
  turns : (n : ℕ) × (turns_of (queues_at l.self).main ≤ n) × (shrink_main n (queues_at l.self).main ≡ shrink_main (turns_of (queues_at l.initial.self).main) (queues_at l.initial.self).main);
  used : queues_used (queues_at l.self) ≡ queues_used (queues_at l.initial.self);
  table : length l.self.table ≡ length l.initial.self.table;
  few : parts_count l.self.parts ≤ parts_count l.initial.self.parts;
  room : l.self.parts.room ≡ l.initial.self.parts.room;
}

abbrev pub decreases-loop-object : goal.decreases-loop-object
decreases-loop-object l = turns_of (queues_at l.self).main
