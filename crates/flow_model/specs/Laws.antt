-- The laws of instances, each the contract of a function.
use Rattle.std.specs.Prelude.{◌≡◌, ℕ, ◌+◌, ◌*◌, ◌<◌, ◌≤◌, List, length, slice_range, sum, sum_by, All}
use Rattle.std.specs.List.{range_with_len}
use Rattle.cache_model.specs.declared.intervals.Interval.{Interval}
use Rattle.cache_model.specs.Intervals.{bound_of}
use Rattle.cache_model.specs.Schedules.{flow_value}
use Rattle.cache_model.specs.Units.{weight, HasWholeCosts}
use Rattle.flow_model.specs.Instances.{Instance, IsArc, IsSchedule, IsSolution, IsLeast, IsBest, value_at, total_cost, whole_instance}
use Rattle.flow_model.specs.Networks.{Flows, IsBalanced, IsPotential, ArePrices}
use Rattle.flow_model.specs.Windows.{window_instance}

-- a schedule earns at most the value at any prices, however many
abbrev pub SchedulesAreBelowPrices : Type 0
SchedulesAreBelowPrices = (instance : Instance) (flows prices : List ℕ) → IsSchedule instance flows → total_cost instance.arcs flows ≤ value_at instance prices

-- if all units are pushed and no edge with room has a positive reduced cost, the falls of the potential and the flows are a solution
abbrev pub EqualValues : Type 0
EqualValues =
    (instance : Instance) (flows : Flows) (potential : ℕ → ℕ) (prices : List ℕ)
    → All (IsArc instance.steps) instance.arcs
    → 0 < instance.units
    → length prices ≡ instance.steps
    → IsBalanced instance flows instance.units
    → IsPotential instance flows potential
    → ArePrices potential prices
    → IsSolution instance prices flows.outer

-- the prices of a solution are least, and its flows are best
abbrev pub SolutionsAreBest : Type 0
SolutionsAreBest = (instance : Instance) (prices flows : List ℕ) → IsSolution instance prices flows → IsLeast instance prices × IsBest instance flows

-- over a denominator with whole costs the prices and flows of a solution have one value over the intervals, and the prices are least over every denominator
abbrev pub ExactIsLeast : Type 0
ExactIsLeast =
    (intervals : List Interval) (steps unit units denominator : ℕ) (prices flows : List ℕ)
    → All (λ i. 0 < weight unit i) intervals
    → HasWholeCosts intervals unit denominator
    → IsSolution (whole_instance intervals steps unit units denominator) prices flows
    → (bound_of intervals unit units denominator prices ≡ flow_value intervals unit denominator flows)
    × ((other : ℕ) (others : List ℕ) → other * bound_of intervals unit units denominator prices ≤ denominator * bound_of intervals unit units other others)

-- over any denominator the bound of a solution's prices is at most what its flows earn, and above their value by at most one for each unit of flow
abbrev pub RoundedIsNear : Type 0
RoundedIsNear =
    (intervals : List Interval) (steps unit units denominator : ℕ) (prices flows : List ℕ)
    → All (λ i. 0 < weight unit i) intervals
    → IsSolution (whole_instance intervals steps unit units denominator) prices flows
    → (bound_of intervals unit units denominator prices ≤ total_cost (whole_instance intervals steps unit units denominator).arcs flows)
    × (bound_of intervals unit units denominator prices ≤ flow_value intervals unit denominator flows + sum flows)

-- if the windows have all steps, the value at prices is at most what the windows' values at their parts of the prices sum to
abbrev pub WindowsAreAbove : Type 0
WindowsAreAbove =
    (whole : Instance) (width windows : ℕ) (prices : List ℕ)
    → 0 < width
    → whole.steps ≤ width * windows
    → length prices ≡ whole.steps
    → All (IsArc whole.steps) whole.arcs
    → value_at whole prices
    ≤ sum_by (λ k. value_at (window_instance whole width k) (slice_range prices (width * k) (width * (k + 1)))) (range_with_len 0 windows)
