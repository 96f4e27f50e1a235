use Rattle.budget_format.proofs.Wholes.{read_written}
use Rattle.budget_format.proofs.laws.read_is_written.Goals as goal

pub returns : goal.returns
returns c = read_written
