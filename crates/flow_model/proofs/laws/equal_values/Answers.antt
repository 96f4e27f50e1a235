use Rattle.flow_model.proofs.Equal.{equal_values as proof}
use Rattle.flow_model.proofs.laws.equal_values.Goals as goal

pub returns : goal.returns
returns c = proof
