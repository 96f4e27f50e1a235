use Rattle.cache_model.proofs.Rounding.{rounded_is_maximal as proof}
use Rattle.cache_model.proofs.laws.rounded_is_maximal.Goals as goal

pub returns : goal.returns
returns c = proof
