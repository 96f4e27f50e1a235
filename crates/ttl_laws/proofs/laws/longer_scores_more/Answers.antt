use Rattle.ttl_laws.proofs.Misses.{longer_scores_more as proof}
use Rattle.ttl_laws.proofs.laws.longer_scores_more.Goals as goal

pub returns : goal.returns
returns c = proof
