-- What is proved of the ends of intervals; each law is the contract of a function.
use Rattle.std.specs.Prelude.{◌≡◌, ℕ, ◌≤◌, true, List, [], ◌∷◌, sum_by}
use Rattle.cache_model.specs.declared.objects.Object.{Object}
use Rattle.cache_model.specs.declared.intervals.Interval.{Interval}
use Rattle.cache_model.specs.Claim.{Terms, counts, request_at}
use Rattle.cache_model.specs.Objects.{IsNext, numbers_of}
use Rattle.cache_model.specs.Intervals.{eligible_intervals, interval_of}
use Rattle.interval_ends.specs.Ends.{eligible_to}

-- a sum over the eligible intervals is one over the requests, of the sums over those that end there
abbrev pub SumsByEnds : Type 0
SumsByEnds =
    (f : Interval → ℕ) (terms : Terms) (trace : List Object)
    → sum_by f (eligible_intervals terms trace) ≡ sum_by (λ t. sum_by f (eligible_to terms trace t)) (numbers_of trace)

-- if the object of two successive requests fits and the later one counts, their interval alone ends there
abbrev pub NextEndsAlone : Type 0
NextEndsAlone =
    (terms : Terms) (trace : List Object) (a t : ℕ)
    → IsNext trace a t
    → (request_at trace a).size ≤ terms.capacity
    → counts terms t ≡ true
    → eligible_to terms trace t ≡ interval_of terms.objective trace a t ∷ []
