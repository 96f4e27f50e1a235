-- What the curve says of LRU.
use Rattle.std.specs.Prelude.{◌≡◌, ℕ, ◌/◌, ◌≤◌, Bool, List, All}
use Rattle.cache_model.specs.declared.objects.Object.{Object}
use Rattle.policy_model.specs.declared.names.PolicyName.TheVariants.{Lru}
use Rattle.policy_model.specs.Runs.{policy_run}
use Rattle.stack_curve.specs.Distances.{curve_hits}

-- each request is for an object of this size
abbrev pub HaveSize : ℕ → List Object → Type 0
HaveSize size trace = All (λ x. x.size ≡ size) trace

-- at one size the hits of LRU, at every capacity, are those of the curve at as many slots as objects fit
abbrev pub CurveIsOfLru : Type 0
CurveIsOfLru = (trace : List Object) (fills : List Bool) (size capacity : ℕ) → 1 ≤ size → 1 ≤ capacity → HaveSize size trace → (policy_run Lru trace capacity 0 fills).hits ≡ curve_hits trace fills (capacity / size)
