use Rattle.part_laws.proofs.Joining.{parts_are_allowed as proof}
use Rattle.part_laws.proofs.laws.parts_are_allowed.Goals as goal

pub returns : goal.returns
returns c = proof
