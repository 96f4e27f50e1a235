use Rattle.ttl_laws.proofs.Shorter.{ttl_bounds_no_worse as proof}
use Rattle.ttl_laws.proofs.laws.ttl_bounds_no_worse.Goals as goal

pub returns : goal.returns
returns c = proof
