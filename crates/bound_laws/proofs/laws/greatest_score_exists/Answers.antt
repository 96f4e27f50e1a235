use Rattle.bound_laws.proofs.Greatest.{greatest_score_exists as proof}
use Rattle.bound_laws.proofs.laws.greatest_score_exists.Goals as goal

pub returns : goal.returns
returns c = proof
