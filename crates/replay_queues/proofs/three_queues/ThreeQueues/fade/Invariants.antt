use Rattle.std.proofs.Common.{◌≡◌, ◌≤◌, length}
use Rattle.policy_model.specs.S3Fifo.{fade}
use Rattle.replay_queues.specs.ThreeParts.{parts_count}
use Rattle.replay_queues.specs.SmallAndMain.{queues_at, IsFading}
use Rattle.replay_queues.proofs.three_queues.ThreeQueues.fade.Given as goal

abbrev pub invariant-loop-self : goal.invariant-loop-self
invariant-loop-self l = record {
  entries_small : (queues_at l.self).small ≡ (queues_at l.initial.self).small;
  entries_main : (queues_at l.self).main ≡ (queues_at l.initial.self).main;
  fading : IsFading l.self;
  fades : fade l.most l.self.parts.ghosts ≡ fade l.most l.initial.self.parts.ghosts;
  table : length l.self.table ≡ length l.initial.self.table;
  few : parts_count l.self.parts ≤ parts_count l.initial.self.parts;
  room : l.self.parts.room ≡ l.initial.self.parts.room;
}

abbrev pub decreases-loop-self : goal.decreases-loop-self
decreases-loop-self l = length l.self.parts.ghosts
