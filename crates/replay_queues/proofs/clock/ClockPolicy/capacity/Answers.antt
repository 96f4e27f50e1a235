use Rattle.std.proofs.Common.{subst}
use Rattle.replay_core.specs.Keeping.{Kept, contents_of}
use Rattle.replay_core.specs.Laws.{IsSound}
use Rattle.replay_core.proofs.Kept.{fit-sound}
use Rattle.replay_queues.specs.Circles.{circle_of}
use Rattle.replay_queues.specs.SieveQueues.{cut_at}
use Rattle.replay_queues.proofs.ClockAnswers.{circle-fits}
use Rattle.replay_queues.proofs.clock.ClockPolicy.capacity.Goals as goal

pub returns-clause-sound : goal.returns-clause-sound
returns-clause-sound c =
    subst (λ (p : Kept). IsSound p.capacity (contents_of p)) c.self.view_is
    (fit-sound c.self.inside.capacity (circle_of (cut_at c.self.inside.hand)) (circle-fits c.self.inside.objects c.self.inside.capacity c.self.inside.used c.self.inside.hand c.self.invariant))
