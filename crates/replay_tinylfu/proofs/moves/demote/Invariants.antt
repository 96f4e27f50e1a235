use Rattle.std.proofs.Common.{◌≡◌, ◌≤◌, ◌^◌, length}
use Rattle.policy_model.specs.WTinyLfu.{demote, main_used}
use Rattle.replay_tinylfu.proofs.moves.demote.Given as goal

abbrev pub invariant-loop-ring : goal.invariant-loop-ring
invariant-loop-ring l = record {
  objects : l.ring.objects ≡ l.initial.ring.objects;
  room : l.ring.room ≡ l.initial.ring.room;
  window : l.ring.segments.window ≡ l.initial.ring.segments.window;
  main : demote l.most l.ring.segments.main.probation l.ring.segments.main.protected ≡ demote l.most l.initial.ring.segments.main.probation l.initial.ring.segments.main.protected;
  range : main_used l.ring.segments.main ≤ 2 ^ 56;
}

abbrev pub decreases-loop-ring : goal.decreases-loop-ring
decreases-loop-ring l = length l.ring.segments.main.protected
