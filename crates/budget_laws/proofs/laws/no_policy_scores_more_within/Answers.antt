use Rattle.budget_laws.proofs.Budgets.{no_policy_scores_more_within as proof}
use Rattle.budget_laws.proofs.laws.no_policy_scores_more_within.Goals as goal

pub returns : goal.returns
returns c = proof
