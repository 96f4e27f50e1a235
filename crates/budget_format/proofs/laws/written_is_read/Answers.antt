use Rattle.budget_format.proofs.Wholes.{written_read}
use Rattle.budget_format.proofs.laws.written_is_read.Goals as goal

pub returns : goal.returns
returns c = written_read
