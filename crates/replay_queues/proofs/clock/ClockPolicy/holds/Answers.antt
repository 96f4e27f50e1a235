use Rattle.std.proofs.Common.{ap, ◌∙◌}
use Rattle.policy_model.specs.States.{has_member}
use Rattle.replay_core.specs.Keeping.{Kept, contents_of}
use Rattle.replay_queues.proofs.ClockAnswers.{circle-member}
use Rattle.replay_queues.proofs.clock.ClockPolicy.holds.Goals as goal

pub returns : goal.returns
returns c = c.holds.ensures ∙ circle-member c.self.inside.hand c.self.invariant.held c.args.object ∙ ap (λ (p : Kept). has_member (contents_of p) c.args.object) c.self.view_is
