use Rattle.cache_model.proofs.Headline.{valid_bounds}
use Rattle.cache_model.proofs.laws.valid_bounds_every_policy.Goals as goal

pub returns : goal.returns
returns c = valid_bounds
