use Rattle.ttl_certs.proofs.Valid.{valid_without_ttl_bounds as proof}
use Rattle.ttl_certs.proofs.laws.valid_without_ttl_bounds.Goals as goal

pub returns : goal.returns
returns c = proof c.ttl_bounds_no_worse.ensures
