use Rattle.flow_model.proofs.Windows.{windows_are_above as proof}
use Rattle.flow_model.proofs.laws.windows_are_above.Goals as goal

pub returns : goal.returns
returns c = proof
