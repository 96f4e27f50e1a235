-- A price that was found from a start, with a bound that is no higher.
use Rattle.std.proofs.Common.{◌≡◌, ℕ, ◌^◌, ◌<◌, ◌≤◌}
use Rattle.ttl_prices.specs.declared.search.LowPrice.{LowPrice}

-- it is at most the start, and its bound is the one that it gives, and at most that of the start
pub record IsFound (bound_at : ℕ → ℕ) (start : ℕ) (found : LowPrice) : Type 0 where
  pub price : found.price ≤ start
  pub bound : found.bound ≡ bound_at found.price
  pub small : found.bound < 2 ^ 127
  pub no_worse : found.bound ≤ bound_at start
