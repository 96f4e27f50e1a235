use Rattle.judge_laws.proofs.Claimed.{claimed_is_scored as proof}
use Rattle.judge_laws.proofs.laws.claimed_is_scored.Goals as goal

pub returns : goal.returns
returns c = proof
