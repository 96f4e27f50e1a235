use Rattle.expiry_laws.proofs.Laxer.{laxer_bounds_stricter as proof}
use Rattle.expiry_laws.proofs.laws.laxer_bounds_stricter.Goals as goal

pub returns : goal.returns
returns c = proof
