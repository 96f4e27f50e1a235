use Rattle.judge_laws.proofs.Possible.{possible_is_allowed as proof}
use Rattle.judge_laws.proofs.laws.possible_is_allowed.Goals as goal

pub returns : goal.returns
returns c = proof
