use Rattle.budget_format.proofs.Wholes.{read_in_range}
use Rattle.budget_format.proofs.laws.read_is_in_range.Goals as goal

pub returns : goal.returns
returns c = read_in_range
