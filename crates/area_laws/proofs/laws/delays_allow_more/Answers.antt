use Rattle.area_laws.proofs.Delays.{delays_allow_more as proof}
use Rattle.area_laws.proofs.laws.delays_allow_more.Goals as goal

pub returns : goal.returns
returns c = proof
