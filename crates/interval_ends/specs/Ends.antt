-- The eligible interval that ends at a request.
use Rattle.std.specs.Prelude.{ℕ, List, map, filter}
use Rattle.cache_model.specs.declared.objects.Object.{Object}
use Rattle.cache_model.specs.declared.intervals.Interval.{Interval}
use Rattle.cache_model.specs.Claim.{Terms}
use Rattle.cache_model.specs.Objects.{numbers_of}
use Rattle.cache_model.specs.Intervals.{is_eligible, interval_of}

-- the eligible intervals that end at request t: one, or none
abbrev pub eligible_to : Terms → List Object → ℕ → List Interval
eligible_to terms trace t =
    map (λ a. interval_of terms.objective trace a t) (filter (λ a. is_eligible terms trace a t) (numbers_of trace))
