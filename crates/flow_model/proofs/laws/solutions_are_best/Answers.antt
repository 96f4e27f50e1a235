use Rattle.flow_model.proofs.Equal.{solution_is_best as proof}
use Rattle.flow_model.proofs.laws.solutions_are_best.Goals as goal

pub returns : goal.returns
returns c = proof
