use Rattle.ttl_judge.proofs.Claims.{claimed_is_scored_with_ttl as proof}
use Rattle.ttl_judge.proofs.laws.claimed_is_scored_with_ttl.Goals as goal

pub returns : goal.returns
returns c = proof
