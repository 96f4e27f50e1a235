-- The bound at constant prices, computed on worked lists of intervals.
use Rattle.std.proofs.Common.{◌≡◌, ℕ, refl, [], ◌∷◌}
use Rattle.cache_model.specs.declared.intervals.Interval.{Interval}
use Rattle.interval_maker.specs.Timelines.{Timeline}
use Rattle.constant_price.specs.Constants.{constant_prices, constant_bound}

abbrev interval : ℕ → ℕ → ℕ → ℕ → Interval
interval start end size gain = record { start = start; end = end; size = size; gain = gain }

-- the last step has no price, and is the only one if there is one step
no_step : constant_prices 7 0 ≡ []
no_step = refl

one_step : constant_prices 7 1 ≡ 0 ∷ []
one_step = refl

three_steps : constant_prices 7 3 ≡ 7 ∷ 7 ∷ 0 ∷ []
three_steps = refl

-- A B C A B C of size 1
turns : Timeline
turns = record { steps = 6; items = interval 0 3 1 1 ∷ interval 1 4 1 1 ∷ interval 2 5 1 1 ∷ [] }

-- one unit, over 3: price 1 is the least, and the bound is 5 over 3
turns_at_0 : constant_bound turns 1 1 3 0 ≡ 9
unfolding turns
turns_at_0 = refl

turns_at_1 : constant_bound turns 1 1 3 1 ≡ 5
unfolding turns
turns_at_1 = refl

turns_at_2 : constant_bound turns 1 1 3 2 ≡ 10
unfolding turns
turns_at_2 = refl

-- the same over 2 ^ 48
turns_before : constant_bound turns 1 1 281474976710656 93824992236884 ≡ 469124961184432
unfolding turns
turns_before = refl

turns_least : constant_bound turns 1 1 281474976710656 93824992236885 ≡ 469124961184428
unfolding turns
turns_least = refl

turns_after : constant_bound turns 1 1 281474976710656 93824992236886 ≡ 469124961184430
unfolding turns
turns_after = refl

-- A of size 2 and B of size 3, in turn twice, at four units of 1 over 6: no price is best
pair : Timeline
pair = record { steps = 4; items = interval 0 2 2 1 ∷ interval 1 3 3 1 ∷ [] }

pair_at_0 : constant_bound pair 1 4 6 0 ≡ 12
unfolding pair
pair_at_0 = refl

pair_at_1 : constant_bound pair 1 4 6 1 ≡ 14
unfolding pair
pair_at_1 = refl

-- A B A A B A of size 2 at one unit of 2 over 6: the prices 2 and 3 are equal, and no other is as good
even : Timeline
even = record { steps = 6; items = interval 0 2 2 1 ∷ interval 1 4 2 1 ∷ interval 2 3 2 1 ∷ interval 3 5 2 1 ∷ [] }

even_bounds : constant_bound even 2 1 6 0 ∷ constant_bound even 2 1 6 1 ∷ constant_bound even 2 1 6 2 ∷ constant_bound even 2 1 6 3 ∷ constant_bound even 2 1 6 4 ∷ [] ≡ 24 ∷ 21 ∷ 18 ∷ 18 ∷ 22 ∷ []
unfolding even
even_bounds = refl
