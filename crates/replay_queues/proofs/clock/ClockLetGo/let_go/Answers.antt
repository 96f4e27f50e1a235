use Rattle.std.proofs.Common.{◌≡◌, ◌-◌}
use Rattle.policy_model.specs.declared.names.PolicyName.TheVariants.{Clock as ByClock}
use Rattle.replay_core.specs.Keeping.{kept_without}
use Rattle.replay_core.proofs.Kept.{fit-sound}
use Rattle.replay_core.proofs.Leavings.{left-contents, left-state}
use Rattle.replay_queues.specs.Circles.{circle_of, circle_kept}
use Rattle.replay_queues.specs.SieveQueues.{cut_at}
use Rattle.replay_queues.proofs.ClockAnswers.{circle-fits, kept-left}
use Rattle.replay_queues.proofs.SieveAnswers.{left-counted}
use Rattle.replay_queues.proofs.clock.ClockLetGo.let_go.Goals as goal

pub invariant_of-self : goal.invariant_of-self
invariant_of-self c =
    left-counted c.self.inside.objects c.self.inside.capacity c.self.inside.used c.leave.result c.self.inside.hand c.leave.new.self c.self.invariant c.leave.ensures.table c.leave.ensures.held c.leave.ensures.freed

-- what is kept is what the rule keeps without it
left : (c : goal.After-self-1) → circle_kept c.self.inside.objects c.self.inside.capacity c.self.inside.requests (cut_at c.leave.new.self) ≡ kept_without ByClock c.args.self.now c.args.object
left c = kept-left c.args.object c.args.self.now c.self.inside.objects c.self.inside.capacity c.self.inside.requests (cut_at c.self.inside.hand) (cut_at c.leave.new.self) c.self.view_is c.leave.ensures.cut

pub returns-clause-contents : goal.returns-clause-contents
returns-clause-contents c = left-contents ByClock c.args.self.now (circle_kept c.self.inside.objects c.self.inside.capacity c.self.inside.requests (cut_at c.leave.new.self)) c.args.object (left c)

pub returns-clause-sound : goal.returns-clause-sound
returns-clause-sound c =
    fit-sound c.self.inside.capacity (circle_of (cut_at c.leave.new.self)) (circle-fits c.self.inside.objects c.self.inside.capacity (c.self.inside.used - c.leave.result) c.leave.new.self (invariant_of-self c))

pub returns-clause-state : goal.returns-clause-state
returns-clause-state c = left-state ByClock c.args.self.now (circle_kept c.self.inside.objects c.self.inside.capacity c.self.inside.requests (cut_at c.leave.new.self)) c.args.object (left c)
