use Rattle.budget_laws.proofs.Budgets.{budgets_rise as proof}
use Rattle.budget_laws.proofs.laws.budgets_rise.Goals as goal

pub returns : goal.returns
returns c = proof
