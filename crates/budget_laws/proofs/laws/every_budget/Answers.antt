use Rattle.budget_laws.proofs.Budgets.{every_budget as proof}
use Rattle.budget_laws.proofs.laws.every_budget.Goals as goal

pub returns : goal.returns
returns c = proof
