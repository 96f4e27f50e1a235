use Rattle.refine_laws.proofs.Least.{settled_whole_is_least as proof}
use Rattle.refine_laws.proofs.laws.settled_whole_is_least.Goals as goal

pub returns : goal.returns
returns c = proof
