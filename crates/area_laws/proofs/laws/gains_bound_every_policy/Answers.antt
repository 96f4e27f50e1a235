use Rattle.area_laws.proofs.Policies.{gains_bound_every_policy as proof}
use Rattle.area_laws.proofs.laws.gains_bound_every_policy.Goals as goal

pub returns : goal.returns
returns c = proof
