-- Areas: for how many steps a hit has held how many bytes, and the bound of an edge.
use Rattle.std.specs.Prelude.{ℕ, ◌+◌, ◌-◌, ◌*◌, nat_lt, List, length, filter, sum_by}
use Rattle.cache_model.specs.declared.objects.Object.{Object}
use Rattle.cache_model.specs.declared.intervals.Interval.{Interval}
use Rattle.cache_model.specs.Claim.{Terms}
use Rattle.cache_model.specs.Intervals.{eligible_intervals}

-- for how many steps at least a hit at the end has held its object, which may have entered with a delay, in requests
abbrev pub length_of : ℕ → Interval → ℕ
length_of delay i = i.end - i.start - delay

-- the size of the object times these steps
abbrev pub area_of : ℕ → Interval → ℕ
area_of delay i = i.size * length_of delay i

-- the edge times the gain, less the area, and 0 if that is negative
abbrev pub area_surplus : ℕ → ℕ → Interval → ℕ
area_surplus delay edge i = edge * i.gain - area_of delay i

-- the area of a cache: its capacity times the steps but the last
abbrev pub cache_area : ℕ → List Object → ℕ
cache_area capacity trace = capacity * (length trace - 1)

-- the numerator of the bound of an edge, over that edge
abbrev pub edge_bound : Terms → ℕ → ℕ → List Object → ℕ
edge_bound terms delay edge trace =
    cache_area terms.capacity trace + sum_by (area_surplus delay edge) (eligible_intervals terms trace)

-- the gains of the intervals, summed
abbrev pub gains_of : List Interval → ℕ
gains_of intervals = sum_by (λ i. i.gain) intervals

-- the areas of the intervals, summed
abbrev pub areas_of : ℕ → List Interval → ℕ
areas_of delay intervals = sum_by (area_of delay) intervals

-- the intervals whose area is below the edge times their gain
abbrev pub below_edge : ℕ → ℕ → List Interval → List Interval
below_edge delay edge intervals = filter (λ i. nat_lt (area_of delay i) (edge * i.gain)) intervals
