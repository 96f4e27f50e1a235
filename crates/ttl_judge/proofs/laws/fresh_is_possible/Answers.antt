use Rattle.ttl_judge.proofs.Fresh.{fresh_is_possible as proof}
use Rattle.ttl_judge.proofs.laws.fresh_is_possible.Goals as goal

pub returns : goal.returns
returns c = proof
