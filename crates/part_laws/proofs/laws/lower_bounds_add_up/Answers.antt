use Rattle.part_laws.proofs.Joining.{lower_bounds_add_up as proof}
use Rattle.part_laws.proofs.laws.lower_bounds_add_up.Goals as goal

pub returns : goal.returns
returns c = proof
