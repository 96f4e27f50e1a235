use Rattle.curve_laws.proofs.Steady.{hits_stay_between_lines as proof}
use Rattle.curve_laws.proofs.laws.hits_stay_between_lines.Goals as goal

pub returns : goal.returns
returns c = proof
