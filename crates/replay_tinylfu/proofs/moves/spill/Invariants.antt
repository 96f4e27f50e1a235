use Rattle.std.proofs.Common.{◌≡◌, ◌≤◌, length}
use Rattle.policy_model.specs.WTinyLfu.{spill, main_used}
use Rattle.replay_tinylfu.proofs.moves.spill.Given as goal

abbrev pub invariant-loop-ring : goal.invariant-loop-ring
invariant-loop-ring l = record {
  objects : l.ring.objects ≡ l.initial.ring.objects;
  room : l.ring.room ≡ l.initial.ring.room;
  segments : spill l.window l.most l.counts.frequencies.counts l.ring.segments.window l.ring.segments.main ≡ spill l.window l.most l.counts.frequencies.counts l.initial.ring.segments.window l.initial.ring.segments.main;
  fits : main_used l.ring.segments.main ≤ l.most;
}

abbrev pub decreases-loop-ring : goal.decreases-loop-ring
decreases-loop-ring l = length l.ring.segments.window
