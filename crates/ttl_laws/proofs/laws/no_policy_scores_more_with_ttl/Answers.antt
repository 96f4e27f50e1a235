use Rattle.ttl_laws.proofs.Within.{no_policy_scores_more_with_ttl as proof}
use Rattle.ttl_laws.proofs.laws.no_policy_scores_more_with_ttl.Goals as goal

pub returns : goal.returns
returns c = proof
