use Rattle.budget_laws.proofs.Budgets.{writes_for_a_score as proof}
use Rattle.budget_laws.proofs.laws.writes_for_a_score.Goals as goal

pub returns : goal.returns
returns c = proof
