-- Instances of the flow on a chain: their value at prices, their schedules, and solutions.
use Rattle.std.specs.Prelude.{◌≡◌, ℕ, ◌+◌, ◌-◌, ◌*◌, ◌^◌, ◌<◌, ◌≤◌, Bool, ◌&&◌, nat_lt, nat_le, if◌then◌else◌, List, length, map, slice_index_or, slice_range, sum, sum_by, zip, All}
use Rattle.std.specs.List.{AllZip}
use Rattle.cache_model.specs.declared.intervals.Interval.{Interval}
use Rattle.cache_model.specs.Units.{weight, cost}
use Rattle.flow_model.specs.declared.arcs.OuterArc.{OuterArc}

-- a chain of steps, each with room for this many units, and the arcs over it
pub record Instance : Type 0 where
  pub steps : ℕ
  pub units : ℕ
  pub arcs : List OuterArc

-- the arc covers a step and ends within the steps, and its numbers are in their ranges
pub record IsArc (steps : ℕ) (arc : OuterArc) : Type 0 where
  pub order : arc.start < arc.end
  pub within : arc.end ≤ steps
  pub some_weight : 0 < arc.weight
  pub small_weight : arc.weight ≤ 2 ^ 48
  pub small_cost : arc.cost ≤ 2 ^ 97

-- all numbers of the instance are in their ranges
pub record IsInstance (instance : Instance) : Type 0 where
  pub few_steps : instance.steps ≤ 2 ^ 25
  pub some_units : 0 < instance.units
  pub few_units : instance.units ≤ 2 ^ 56
  pub few_arcs : length instance.arcs ≤ 2 ^ 26
  pub arcs_fit : All (IsArc instance.steps) instance.arcs

-- what stands past the last arc
abbrev pub no_arc : OuterArc
no_arc = record { start = 0; end = 0; weight = 0; cost = 0 }

-- the arc of that number
abbrev pub arc_at : List OuterArc → ℕ → OuterArc
arc_at arcs i = slice_index_or arcs i no_arc

-- the prices of the steps that the arc covers, summed
abbrev pub price_over : List ℕ → OuterArc → ℕ
price_over prices arc = sum (slice_range prices arc.start arc.end)

-- what the whole weight of the arc earns above the price of its steps, and 0 if it earns less
abbrev pub surplus : List ℕ → OuterArc → ℕ
surplus prices arc = arc.weight * arc.cost - arc.weight * price_over prices arc

-- the units at their prices, and what the arcs earn above them
abbrev pub value_at : Instance → List ℕ → ℕ
value_at instance prices = instance.units * sum prices + sum_by (surplus prices) instance.arcs

-- the step t is one of those from the arc's start to before its end
abbrev pub covers : ℕ → OuterArc → Bool
covers t arc = nat_le arc.start t && nat_lt t arc.end

-- the flows of the arcs over step t, summed
abbrev pub load_at : List OuterArc → List ℕ → ℕ → ℕ
load_at arcs flows t = sum_by (λ (arc, flow). if covers t arc then flow else 0) (zip arcs flows)

-- one flow for each arc, at most its weight, and the flows over each step are within the units
pub record IsSchedule (instance : Instance) (flows : List ℕ) : Type 0 where
  pub within_weights : AllZip (λ arc flow. flow ≤ arc.weight) instance.arcs flows
  pub within_units : (t : ℕ) → load_at instance.arcs flows t ≤ instance.units

-- what the flows earn
abbrev pub total_cost : List OuterArc → List ℕ → ℕ
total_cost arcs flows = sum_by (λ (arc, flow). arc.cost * flow) (zip arcs flows)

-- no prices of as many steps have a smaller value
abbrev pub IsLeast : Instance → List ℕ → Type 0
IsLeast instance prices = (others : List ℕ) → length others ≡ instance.steps → value_at instance prices ≤ value_at instance others

-- no schedule earns more
abbrev pub IsBest : Instance → List ℕ → Type 0
IsBest instance flows = (others : List ℕ) → IsSchedule instance others → total_cost instance.arcs others ≤ total_cost instance.arcs flows

-- a price for each step and a schedule: the value at the prices is what the flows earn
pub record IsSolution (instance : Instance) (prices flows : List ℕ) : Type 0 where
  pub each_step : length prices ≡ instance.steps
  pub schedule : IsSchedule instance flows
  pub equal_values : value_at instance prices ≡ total_cost instance.arcs flows

-- the arc of an interval
abbrev pub arc_of : ℕ → ℕ → Interval → OuterArc
arc_of unit denominator i = record { start = i.start; end = i.end; weight = weight unit i; cost = cost unit denominator i }

-- the instance of all intervals, with an arc for each in their order
abbrev pub whole_instance : List Interval → ℕ → ℕ → ℕ → ℕ → Instance
whole_instance intervals steps unit units denominator =
    record { steps = steps; units = units; arcs = map (arc_of unit denominator) intervals }
