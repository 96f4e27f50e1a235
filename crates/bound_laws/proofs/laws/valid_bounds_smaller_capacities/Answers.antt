use Rattle.bound_laws.proofs.Smaller.{valid_bounds_smaller_capacities as proof}
use Rattle.bound_laws.proofs.laws.valid_bounds_smaller_capacities.Goals as goal

pub returns : goal.returns
returns c = proof
