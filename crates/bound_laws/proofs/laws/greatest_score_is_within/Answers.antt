use Rattle.bound_laws.proofs.Greatest.{greatest_score_is_within as proof}
use Rattle.bound_laws.proofs.laws.greatest_score_is_within.Goals as goal

pub returns : goal.returns
returns c = proof
