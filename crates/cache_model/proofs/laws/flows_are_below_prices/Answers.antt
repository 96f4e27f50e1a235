use Rattle.cache_model.proofs.Flows.{flow_value-le as proof}
use Rattle.cache_model.proofs.laws.flows_are_below_prices.Goals as goal

pub returns : goal.returns
returns c = proof
