use Rattle.cache_model.proofs.Steps.{no_policy_scores_more_lem}
use Rattle.cache_model.proofs.laws.no_policy_scores_more.Goals as goal

pub returns : goal.returns
returns c = no_policy_scores_more_lem
