use Rattle.curve_laws.proofs.Steady.{curve_is_steady as proof}
use Rattle.curve_laws.proofs.laws.curve_is_steady.Goals as goal

pub returns : goal.returns
returns c = proof
