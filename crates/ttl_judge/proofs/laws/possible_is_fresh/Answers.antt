use Rattle.ttl_judge.proofs.Fresh.{possible_is_fresh as proof}
use Rattle.ttl_judge.proofs.laws.possible_is_fresh.Goals as goal

pub returns : goal.returns
returns c = proof
