-- One price on every step but the last.
use Rattle.std.specs.Prelude.{ℕ, zero, suc, ◌<◌, ◌≤◌, ◌≢◌, List, [], ◌∷◌, ◌++◌, replicate}
use Rattle.cache_model.specs.Intervals.{bound_of}
use Rattle.interval_maker.specs.Timelines.{Timeline}

-- the price on each step but the last, whose price is 0
abbrev pub constant_prices : ℕ → ℕ → List ℕ
constant_prices price zero = []
constant_prices price (suc n) = replicate n price ++ 0 ∷ []

-- the bound of these prices
abbrev pub constant_bound : Timeline → ℕ → ℕ → ℕ → ℕ → ℕ
constant_bound line unit units denominator price =
    bound_of line.items unit units denominator (constant_prices price line.steps)

-- no constant has a smaller bound, and no smaller one an equal bound
pub record IsLeastConstant (line : Timeline) (unit units denominator price : ℕ) : Type 0 where
  pub no_smaller_bound : (q : ℕ) → constant_bound line unit units denominator price ≤ constant_bound line unit units denominator q
  pub no_smaller_price : (q : ℕ) → q < price → constant_bound line unit units denominator q ≢ constant_bound line unit units denominator price
