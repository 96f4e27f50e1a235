use Rattle.std.proofs.Common.{◌≡◌}
use Rattle.policy_model.specs.WTinyLfu.{without_first}
use Rattle.replay_tinylfu.specs.Queues.{with_main}
use Rattle.replay_tinylfu.proofs.moves.remove_first.Given as goal

abbrev pub invariant-loop-gone : goal.invariant-loop-gone
invariant-loop-gone l = l.ring ≡ with_main (without_first l._gone l.initial.ring.segments.main) l.initial.ring
