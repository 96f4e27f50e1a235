use Rattle.ttl_laws.proofs.Idle.{idle_adds_nothing as proof}
use Rattle.ttl_laws.proofs.laws.idle_adds_nothing.Goals as goal

pub returns : goal.returns
returns c = proof
