use Rattle.area_laws.proofs.Groups.{groups_add_up as proof}
use Rattle.area_laws.proofs.laws.groups_add_up.Goals as goal

pub returns : goal.returns
returns c = proof
