use Rattle.ttl_certs.proofs.Valid.{valid_bounds_shorter_ttls as proof}
use Rattle.ttl_certs.proofs.laws.valid_bounds_shorter_ttls.Goals as goal

pub returns : goal.returns
returns c = proof c.bounds_rise_with_ttl.ensures
