use Rattle.cache_model.proofs.Units.{unit_is_one_number as proof}
use Rattle.cache_model.proofs.laws.unit_is_one_number.Goals as goal

pub returns : goal.returns
returns c = proof
