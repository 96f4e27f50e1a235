-- How prices and flows are stored.
use Rattle.std.specs.Prelude.{replicate}
use Rattle.constant_price.specs.Constants.{constant_prices}
use Rattle.flow_model.specs.Solutions.{Answer}
use Rattle.bound_run.specs.declared.prices.Storage.{Storage}
use Rattle.bound_run.specs.declared.prices.Storage.TheVariants.{Each, OnePrice}

-- the price of each step and the flow of each interval
abbrev pub stored : Storage → Answer
stored (Each solution) = solution
stored (OnePrice price steps intervals) = record { prices = constant_prices price steps; flows = replicate intervals 0 }
