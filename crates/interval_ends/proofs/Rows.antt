-- The definitions at small cases, computed.
use Rattle.std.proofs.Common.{◌≡◌, ℕ, List, [], ◌∷◌, map, refl}
use Rattle.cache_model.specs.declared.objects.Object.{Object}
use Rattle.cache_model.specs.declared.objects.Objective.TheVariants.{Bytes}
use Rattle.cache_model.specs.Claim.{terms_from}
use Rattle.interval_ends.specs.Ends.{eligible_to}

abbrev object : ℕ → ℕ → Object
object id size = record { volume = 0; id = id; size = size }

-- the requests A B A B, where A is of size 2 and B of 3, in bytes at a capacity of 2, past a warm-up of one request
abbrev trace : List Object
trace = object 1 2 ∷ object 2 3 ∷ object 1 2 ∷ object 2 3 ∷ []

ends : map (eligible_to (terms_from Bytes 2 1 []) trace) (0 ∷ 1 ∷ 2 ∷ 3 ∷ [])
    ≡ [] ∷ [] ∷ (record { start = 0; end = 2; size = 2; gain = 2 } ∷ []) ∷ [] ∷ []
ends = refl
