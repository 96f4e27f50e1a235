-- No policy scores more than the bound of any prices.
use Rattle.std.specs.Prelude.{◌≡◌, ℕ, ◌*◌, ◌/◌, ◌≤◌, List, length}
use Rattle.cache_model.specs.declared.objects.Object.{Object}
use Rattle.cache_model.specs.Claim.{Terms, IsAllowed, score}
use Rattle.cache_model.specs.Intervals.{eligible_intervals, bound_of}

-- over the denominator, no allowed contents score more than the priced bound
abbrev pub NoPolicyScoresMore : Type 0
NoPolicyScoresMore =
    (terms : Terms) (unit denominator : ℕ) (trace : List Object) (prices : List ℕ) (contents : List (List Object))
    → IsAllowed terms.capacity trace contents
    → length prices ≡ length trace
    → denominator * score terms trace contents
    ≤ bound_of (eligible_intervals terms trace) unit (terms.capacity / unit) denominator prices
