-- The bound of the best single price at a capacity.
use Rattle.std.specs.Prelude.{◌≡◌, ℕ, ◌/◌}
use Rattle.cache_model.specs.Units.{IsUnit}
use Rattle.interval_maker.specs.Timelines.{Timeline}
use Rattle.constant_price.specs.Constants.{IsLeastConstant, constant_bound}

-- over the denominator, the bound of the price that makes it least, if it is the price of every step but the last, and sizes are weighed in the greatest unit
pub record IsOnePriceBound (line : Timeline) (capacity denominator upper : ℕ) : Type 0 where
  pub unit : ℕ
  pub unit_is : IsUnit line.items unit
  pub price : ℕ
  pub least : IsLeastConstant line unit (capacity / unit) denominator price
  pub upper_is : upper ≡ constant_bound line unit (capacity / unit) denominator price
