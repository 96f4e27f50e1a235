-- What intervals are worth beyond a constant price.
use Rattle.std.specs.Prelude.{ℕ, ◌+◌, ◌-◌, ◌*◌, List, sum_by}
use Rattle.cache_model.specs.declared.intervals.Interval.{Interval}
use Rattle.cache_model.specs.Units.{weight}

-- what an interval pays at price 1: its weight for each step that it covers
abbrev pub charge : ℕ → Interval → ℕ
charge unit i = weight unit i * (i.end - i.start)

-- the gain times the denominator, less what the interval pays, and 0 if that is negative
abbrev pub surplus_at : ℕ → ℕ → ℕ → Interval → ℕ
surplus_at unit denominator price i = denominator * i.gain - charge unit i * price

-- how much of the surplus the next price takes away
abbrev pub fall_at : ℕ → ℕ → ℕ → Interval → ℕ
fall_at unit denominator price i = surplus_at unit denominator price i - surplus_at unit denominator (price + 1) i

-- the surplus of all intervals
abbrev pub surplus_of : ℕ → ℕ → ℕ → List Interval → ℕ
surplus_of unit denominator price intervals = sum_by (surplus_at unit denominator price) intervals

-- how much of it the next price takes away
abbrev pub fall_of : ℕ → ℕ → ℕ → List Interval → ℕ
fall_of unit denominator price intervals = sum_by (fall_at unit denominator price) intervals
