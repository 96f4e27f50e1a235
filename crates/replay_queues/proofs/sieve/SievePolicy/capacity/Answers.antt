use Rattle.std.proofs.Common.{subst}
use Rattle.policy_model.proofs.SieveSound.{cut_entries}
use Rattle.replay_core.specs.Keeping.{Kept, contents_of}
use Rattle.replay_core.specs.Laws.{IsSound}
use Rattle.replay_core.proofs.Kept.{fit-sound}
use Rattle.replay_queues.specs.SieveQueues.{cut_at}
use Rattle.replay_queues.proofs.SieveAnswers.{cut-fit}
use Rattle.replay_queues.proofs.sieve.SievePolicy.capacity.Goals as goal

pub returns-clause-sound : goal.returns-clause-sound
returns-clause-sound c =
    subst (λ (p : Kept). IsSound p.capacity (contents_of p)) c.self.view_is
    (fit-sound c.self.inside.capacity (cut_entries (cut_at c.self.inside.hand)) (cut-fit c.self.inside.objects c.self.inside.capacity c.self.inside.used c.self.inside.hand c.self.invariant))
