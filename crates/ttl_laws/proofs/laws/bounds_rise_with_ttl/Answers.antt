use Rattle.ttl_laws.proofs.Longer.{bounds_rise_with_ttl as proof}
use Rattle.ttl_laws.proofs.laws.bounds_rise_with_ttl.Goals as goal

pub returns : goal.returns
returns c = proof
