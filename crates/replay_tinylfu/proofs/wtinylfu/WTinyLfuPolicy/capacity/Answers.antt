use Rattle.std.proofs.Common.{subst}
use Rattle.policy_model.specs.WTinyLfu.{segment_entries}
use Rattle.replay_core.specs.Keeping.{Kept, contents_of}
use Rattle.replay_core.specs.Laws.{IsSound}
use Rattle.replay_core.proofs.Kept.{fit-sound}
use Rattle.replay_tinylfu.proofs.wtinylfu.WTinyLfuPolicy.capacity.Goals as goal

pub returns-clause-sound : goal.returns-clause-sound
returns-clause-sound c =
    subst (λ (p : Kept). IsSound p.capacity (contents_of p)) c.self.view_is (fit-sound c.self.inside.capacity (segment_entries c.self.inside.ring.segments) c.self.invariant.fits)
