use Rattle.judge_laws.proofs.Claimed.{claimed_is_bounded as proof}
use Rattle.judge_laws.proofs.laws.claimed_is_bounded.Goals as goal

pub returns : goal.returns
returns c = proof
