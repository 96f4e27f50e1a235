use Rattle.ttl_laws.proofs.Idle.{idle_bounds_ttl as proof}
use Rattle.ttl_laws.proofs.laws.idle_bounds_ttl.Goals as goal

pub returns : goal.returns
returns c = proof
