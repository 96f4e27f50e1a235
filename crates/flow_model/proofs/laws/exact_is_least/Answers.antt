use Rattle.flow_model.proofs.Whole.{exact_is_least as proof}
use Rattle.flow_model.proofs.laws.exact_is_least.Goals as goal

pub returns : goal.returns
returns c = proof
