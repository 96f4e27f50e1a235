use Rattle.refine_laws.proofs.Least.{refined_whole_is_least as proof}
use Rattle.refine_laws.proofs.laws.refined_whole_is_least.Goals as goal

pub returns : goal.returns
returns c = proof
