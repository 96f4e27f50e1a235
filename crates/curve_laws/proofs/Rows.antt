-- The hits of a small trace, computed.
use Rattle.std.proofs.Common.{◌≡◌, ℕ, List, [], ◌∷◌, length, map, refl}
use Rattle.cache_model.specs.declared.objects.Object.{Object}
use Rattle.cache_model.specs.Objects.{objects_of}
use Rattle.stack_curve.specs.Distances.{curve_hits}

abbrev object : ℕ → Object
object id = record { volume = 0; id = id; size = 1 }

-- A B C A B C A A: 1 and 3 slots add hits, 2 and more than 3 don't
abbrev trace : List Object
trace = object 1 ∷ object 2 ∷ object 3 ∷ object 1 ∷ object 2 ∷ object 3 ∷ object 1 ∷ object 1 ∷ []

three_objects : length (objects_of trace) ≡ 3
three_objects = refl

hits_at_each : map (curve_hits trace []) (0 ∷ 1 ∷ 2 ∷ 3 ∷ 4 ∷ []) ≡ 0 ∷ 1 ∷ 1 ∷ 5 ∷ 5 ∷ []
hits_at_each = refl
