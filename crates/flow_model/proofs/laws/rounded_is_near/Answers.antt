use Rattle.flow_model.proofs.Whole.{rounded_is_near as proof}
use Rattle.flow_model.proofs.laws.rounded_is_near.Goals as goal

pub returns : goal.returns
returns c = proof
