use Rattle.std.proofs.Common.{◌≡◌, ◌-◌}
use Rattle.policy_model.specs.declared.names.PolicyName.TheVariants.{Sieve as ByHand}
use Rattle.policy_model.proofs.SieveSound.{cut_entries}
use Rattle.replay_core.specs.Keeping.{kept_without}
use Rattle.replay_core.proofs.Kept.{fit-sound}
use Rattle.replay_core.proofs.Leavings.{left-contents, left-state}
use Rattle.replay_queues.specs.SieveQueues.{cut_at, cut_kept}
use Rattle.replay_queues.proofs.SieveAnswers.{cut-fit, left-counted, kept-left}
use Rattle.replay_queues.proofs.sieve.SieveLetGo.let_go.Goals as goal

pub invariant_of-self : goal.invariant_of-self
invariant_of-self c =
    left-counted c.self.inside.objects c.self.inside.capacity c.self.inside.used c.leave.result c.self.inside.hand c.leave.new.self c.self.invariant c.leave.ensures.table c.leave.ensures.held c.leave.ensures.freed

-- what is kept is what the rule keeps without it
left : (c : goal.After-self-1) → cut_kept c.self.inside.objects c.self.inside.capacity c.self.inside.requests (cut_at c.leave.new.self) ≡ kept_without ByHand c.args.self.now c.args.object
left c = kept-left c.args.object c.args.self.now c.self.inside.objects c.self.inside.capacity c.self.inside.requests (cut_at c.self.inside.hand) (cut_at c.leave.new.self) c.self.view_is c.leave.ensures.cut

pub returns-clause-contents : goal.returns-clause-contents
returns-clause-contents c = left-contents ByHand c.args.self.now (cut_kept c.self.inside.objects c.self.inside.capacity c.self.inside.requests (cut_at c.leave.new.self)) c.args.object (left c)

pub returns-clause-sound : goal.returns-clause-sound
returns-clause-sound c =
    fit-sound c.self.inside.capacity (cut_entries (cut_at c.leave.new.self)) (cut-fit c.self.inside.objects c.self.inside.capacity (c.self.inside.used - c.leave.result) c.leave.new.self (invariant_of-self c))

pub returns-clause-state : goal.returns-clause-state
returns-clause-state c = left-state ByHand c.args.self.now (cut_kept c.self.inside.objects c.self.inside.capacity c.self.inside.requests (cut_at c.leave.new.self)) c.args.object (left c)
