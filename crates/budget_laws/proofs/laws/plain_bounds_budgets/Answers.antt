use Rattle.budget_laws.proofs.Budgets.{plain_bounds_budgets as proof}
use Rattle.budget_laws.proofs.laws.plain_bounds_budgets.Goals as goal

pub returns : goal.returns
returns c = proof
