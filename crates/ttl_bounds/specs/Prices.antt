-- The price of all steps but the last, and the bound that it gives with a ttl.
use Rattle.std.specs.Prelude.{◌≡◌, ℕ, ◌*◌, ◌^◌, ◌<◌, ◌≤◌, List, length, sum}
use Rattle.cache_model.specs.declared.terms.Terms.{Terms}
use Rattle.cache_rules.specs.Stored.{Requests}
use Rattle.constant_price.specs.Constants.{IsLeastConstant, constant_prices}
use Rattle.interval_maker.specs.Timelines.{Timeline}
use Rattle.ttl_prices.specs.declared.search.LowPrice.{LowPrice}
use Rattle.ttl_prices.specs.Bounds.{bound_of_price}

-- the price gives this bound with the ttl, and both are small
pub record GivesBound (terms : Terms) (unit units denominator : ℕ) (trace : Requests) (times : List ℕ) (ttl : ℕ) (found : LowPrice) : Type 0 where
  pub price : found.price ≤ 2 ^ 96
  pub paid : units * sum (constant_prices found.price (length trace.objects)) ≤ 2 ^ 121
  pub bound : found.bound ≡ bound_of_price terms unit denominator trace times ttl found.price
  pub small : found.bound < 2 ^ 127

-- the price is at most the least one without a ttl, and the upper bound at most the bound that this gives
pub record IsLowPrice (line : Timeline) (unit units denominator : ℕ) (bound_with : ℕ → ℕ) (price upper : ℕ) : Type 0 where
  pub least : ℕ
  pub is_least : IsLeastConstant line unit units denominator least
  pub lower : price ≤ least
  pub no_worse : upper ≤ bound_with least
