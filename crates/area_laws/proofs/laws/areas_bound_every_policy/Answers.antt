use Rattle.area_laws.proofs.Policies.{areas_bound_every_policy as proof}
use Rattle.area_laws.proofs.laws.areas_bound_every_policy.Goals as goal

pub returns : goal.returns
returns c = proof
