use Rattle.std.proofs.Common.{ap, ◌∙◌}
use Rattle.policy_model.specs.States.{has_member}
use Rattle.replay_core.specs.Keeping.{Kept, contents_of}
use Rattle.replay_queues.specs.Items.{items_of}
use Rattle.replay_queues.proofs.S3FifoAnswers.{kept-member}
use Rattle.replay_queues.proofs.s3fifo.S3FifoPolicy.holds.Goals as goal

pub returns : goal.returns
returns c =
    let h = c.self.inside.queues in
    c.holds.ensures ∙ kept-member h.table (items_of h.parts.small) (items_of h.parts.main) h.parts.ghosts c.self.invariant.queued.fading.are c.args.object ∙ ap (λ (p : Kept). has_member (contents_of p) c.args.object) c.self.view_is
