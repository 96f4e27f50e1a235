use Rattle.flow_model.proofs.Exchange.{below_prices as proof}
use Rattle.flow_model.proofs.laws.schedules_are_below_prices.Goals as goal

pub returns : goal.returns
returns c = proof
