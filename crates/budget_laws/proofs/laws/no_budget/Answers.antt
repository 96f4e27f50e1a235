use Rattle.budget_laws.proofs.Budgets.{no_budget as proof}
use Rattle.budget_laws.proofs.laws.no_budget.Goals as goal

pub returns : goal.returns
returns c = proof
