use Rattle.ttl_laws.proofs.Idle.{idle_certificates_bound_ttl as proof}
use Rattle.ttl_laws.proofs.laws.idle_certificates_bound_ttl.Goals as goal

pub returns : goal.returns
returns c = proof
