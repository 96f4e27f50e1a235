use Rattle.std.proofs.Common.{subst}
use Rattle.replay_core.specs.Keeping.{Kept, contents_of}
use Rattle.replay_core.specs.Laws.{IsSound}
use Rattle.replay_core.proofs.Kept.{fit-sound}
use Rattle.replay_rank.specs.AgingEntries.{entries_of}
use Rattle.replay_rank.proofs.gdsf98.Gdsf98Policy.capacity.Goals as goal

pub returns-clause-sound : goal.returns-clause-sound
returns-clause-sound c =
    subst (λ (p : Kept). IsSound p.capacity (contents_of p)) c.self.view_is (fit-sound c.self.inside.capacity (entries_of c.self.inside.holdings) c.self.invariant.aging.fits)
