use Rattle.ttl_scores.proofs.Long.{long_ttls_lose_no_hit as proof}
use Rattle.ttl_scores.proofs.laws.long_ttls_lose_no_hit.Goals as goal

pub returns : goal.returns
returns c = proof
