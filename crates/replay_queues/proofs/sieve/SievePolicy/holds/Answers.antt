use Rattle.std.proofs.Common.{ap, ◌∙◌}
use Rattle.policy_model.specs.States.{has_member}
use Rattle.replay_core.specs.Keeping.{Kept, contents_of}
use Rattle.replay_queues.specs.SieveQueues.{behind_items, ahead_items}
use Rattle.replay_queues.proofs.SieveAnswers.{held-member}
use Rattle.replay_queues.proofs.sieve.SievePolicy.holds.Goals as goal

pub returns : goal.returns
returns c =
    let h = c.self.inside.hand in
    c.holds.ensures ∙ held-member h.table (behind_items h) (ahead_items h) c.self.invariant.held.are c.args.object ∙ ap (λ (p : Kept). has_member (contents_of p) c.args.object) c.self.view_is
