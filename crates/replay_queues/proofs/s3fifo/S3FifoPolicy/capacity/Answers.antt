use Rattle.std.proofs.Common.{subst}
use Rattle.policy_model.proofs.S3FifoSound.{queue_entries}
use Rattle.replay_core.specs.Keeping.{Kept, contents_of}
use Rattle.replay_core.specs.Laws.{IsSound}
use Rattle.replay_core.proofs.Kept.{fit-sound}
use Rattle.replay_queues.specs.SmallAndMain.{queues_at}
use Rattle.replay_queues.proofs.S3FifoAnswers.{s3fifo-fit}
use Rattle.replay_queues.proofs.s3fifo.S3FifoPolicy.capacity.Goals as goal

pub returns-clause-sound : goal.returns-clause-sound
returns-clause-sound c =
    subst (λ (p : Kept). IsSound p.capacity (contents_of p)) c.self.view_is
    (fit-sound c.self.inside.capacity (queue_entries (queues_at c.self.inside.queues)) (s3fifo-fit c.self.inside.objects c.self.inside.capacity c.self.inside.used c.self.inside.queues c.self.invariant))
