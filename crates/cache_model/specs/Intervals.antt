-- Eligible intervals, and the bound of a list of prices.
use Rattle.std.specs.Prelude.{ℕ, ◌+◌, ◌-◌, ◌*◌, ◌/◌, Bool, not, ◌&&◌, nat_lt, nat_le, List, map, slice_range, filter, flat_map, sum, sum_by}
use Rattle.std.specs.List.{list_any}
use Rattle.cache_model.specs.declared.objects.Object.{Object}
use Rattle.cache_model.specs.declared.objects.Objective.{Objective}
use Rattle.cache_model.specs.declared.intervals.Interval.{Interval}
use Rattle.cache_model.specs.Claim.{Terms, counts, same_object, gain_of, request_at}
use Rattle.cache_model.specs.Objects.{numbers_of}

-- request a comes before request b, both are of one object that fits, no request between them is of it, and b counts
abbrev pub is_eligible : Terms → List Object → ℕ → ℕ → Bool
is_eligible terms trace a b =
    let x = request_at trace a in
    nat_lt a b && same_object x (request_at trace b) && not (list_any (same_object x) (slice_range trace (a + 1) b))
    && nat_le x.size terms.capacity && counts terms b

-- the interval of two requests, with its size and the gain of the later one
abbrev pub interval_of : Objective → List Object → ℕ → ℕ → Interval
interval_of objective trace a b =
    record { start = a; end = b; size = (request_at trace a).size; gain = gain_of objective (request_at trace b) }

-- the eligible intervals that start at request a
abbrev pub eligible_from : Terms → List Object → ℕ → List Interval
eligible_from terms trace a = map (interval_of terms.objective trace a) (filter (is_eligible terms trace a) (numbers_of trace))

-- the eligible intervals among all pairs of requests, in order of start
abbrev pub eligible_intervals : Terms → List Object → List Interval
eligible_intervals terms trace = flat_map (eligible_from terms trace) (numbers_of trace)

-- the gain times the denominator, less the weight times the prices of the steps covered, and 0 if that is negative
abbrev pub surplus : ℕ → ℕ → List ℕ → Interval → ℕ
surplus unit denominator prices i =
    denominator * i.gain - (i.size / unit) * sum (slice_range prices i.start i.end)

-- the numerator of the bound that the prices give
abbrev pub bound_of : List Interval → ℕ → ℕ → ℕ → List ℕ → ℕ
bound_of intervals unit units denominator prices =
    units * sum prices + sum_by (surplus unit denominator prices) intervals
