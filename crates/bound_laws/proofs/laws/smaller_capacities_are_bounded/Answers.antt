use Rattle.bound_laws.proofs.Smaller.{smaller_capacities_are_bounded as proof}
use Rattle.bound_laws.proofs.laws.smaller_capacities_are_bounded.Goals as goal

pub returns : goal.returns
returns c = proof
