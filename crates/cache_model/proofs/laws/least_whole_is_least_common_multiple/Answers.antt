use Rattle.cache_model.proofs.Units.{least_whole_is_least_common_multiple as proof}
use Rattle.cache_model.proofs.laws.least_whole_is_least_common_multiple.Goals as goal

pub returns : goal.returns
returns c = proof
