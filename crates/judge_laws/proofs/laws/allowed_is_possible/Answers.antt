use Rattle.judge_laws.proofs.Possible.{allowed_is_possible as proof}
use Rattle.judge_laws.proofs.laws.allowed_is_possible.Goals as goal

pub returns : goal.returns
returns c = proof
