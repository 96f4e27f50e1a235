use Rattle.ttl_scores.proofs.Long.{long_ttls_write_no_more as proof}
use Rattle.ttl_scores.proofs.laws.long_ttls_write_no_more.Goals as goal

pub returns : goal.returns
returns c = proof
