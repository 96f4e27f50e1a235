use Rattle.std.proofs.Common.{◌≡◌, ◌-◌}
use Rattle.policy_model.specs.declared.names.PolicyName.TheVariants.{S3Fifo as ByTrial}
use Rattle.policy_model.proofs.S3FifoSound.{queue_entries}
use Rattle.replay_core.specs.Keeping.{kept_without}
use Rattle.replay_core.proofs.Kept.{fit-sound}
use Rattle.replay_core.proofs.Leavings.{left-contents, left-state}
use Rattle.replay_queues.specs.SmallAndMain.{queues_at, queues_kept}
use Rattle.replay_queues.proofs.S3FifoAnswers.{s3fifo-fit, left-s3fifo, kept-left}
use Rattle.replay_queues.proofs.s3fifo.S3FifoLetGo.let_go.Goals as goal

pub invariant_of-self : goal.invariant_of-self
invariant_of-self c =
    left-s3fifo c.self.inside.objects c.self.inside.capacity c.self.inside.used c.leave.result c.self.inside.queues c.leave.new.self c.self.invariant c.leave.ensures.table c.leave.ensures.queued c.leave.ensures.freed

-- what is kept is what the rule keeps without it
left : (c : goal.After-self-1) → queues_kept c.self.inside.objects c.self.inside.capacity c.self.inside.requests (queues_at c.leave.new.self) ≡ kept_without ByTrial c.args.self.now c.args.object
left c = kept-left c.args.object c.args.self.now c.self.inside.objects c.self.inside.capacity c.self.inside.requests (queues_at c.self.inside.queues) (queues_at c.leave.new.self) c.self.view_is c.leave.ensures.queues

pub returns-clause-contents : goal.returns-clause-contents
returns-clause-contents c = left-contents ByTrial c.args.self.now (queues_kept c.self.inside.objects c.self.inside.capacity c.self.inside.requests (queues_at c.leave.new.self)) c.args.object (left c)

pub returns-clause-sound : goal.returns-clause-sound
returns-clause-sound c =
    fit-sound c.self.inside.capacity (queue_entries (queues_at c.leave.new.self)) (s3fifo-fit c.self.inside.objects c.self.inside.capacity (c.self.inside.used - c.leave.result) c.leave.new.self (invariant_of-self c))

pub returns-clause-state : goal.returns-clause-state
returns-clause-state c = left-state ByTrial c.args.self.now (queues_kept c.self.inside.objects c.self.inside.capacity c.self.inside.requests (queues_at c.leave.new.self)) c.args.object (left c)
