use Rattle.ttl_certs.proofs.Valid.{valid_bounds_with_ttl as proof}
use Rattle.ttl_certs.proofs.laws.valid_bounds_with_ttl.Goals as goal

pub returns : goal.returns
returns c = proof
