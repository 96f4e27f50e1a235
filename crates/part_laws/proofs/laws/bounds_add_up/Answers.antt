use Rattle.part_laws.proofs.Summing.{bounds_add_up as proof}
use Rattle.part_laws.proofs.laws.bounds_add_up.Goals as goal

pub returns : goal.returns
returns c = proof
