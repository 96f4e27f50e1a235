use Rattle.cache_model.proofs.Headline.{exact_is_least as proof}
use Rattle.cache_model.proofs.laws.exact_is_least.Goals as goal

pub returns : goal.returns
returns c = proof
