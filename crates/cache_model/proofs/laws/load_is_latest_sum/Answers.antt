use Rattle.cache_model.proofs.Loads.{load-latest}
use Rattle.cache_model.proofs.laws.load_is_latest_sum.Goals as goal

pub returns : goal.returns
returns c = load-latest
