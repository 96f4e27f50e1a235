use Rattle.cache_model.proofs.Rounding.{held-load as proof}
use Rattle.cache_model.proofs.laws.contents_weigh_their_intervals.Goals as goal

pub returns : goal.returns
returns c = proof
