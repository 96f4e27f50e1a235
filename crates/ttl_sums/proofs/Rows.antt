-- The definitions at small traces, computed. The greatest scores are those of all choices of runs, by a program that tries each.
use Rattle.std.proofs.Common.{◌≡◌, ℕ, true, false, List, [], ◌∷◌, map, refl, position, Some}
use Rattle.cache_model.specs.declared.objects.Object.{Object}
use Rattle.cache_model.specs.declared.objects.Objective.TheVariants.{Object as Hits}
use Rattle.cache_model.specs.Claim.{request_at, same_object, terms_from}
use Rattle.cache_model.specs.Objects.{objects_of}
use Rattle.ttl_sums.specs.Walked.{Priced, bound_of, objects_before, worth_before, worths_before}

abbrev object : ℕ → ℕ → Object
object id size = record { volume = 0; id = id; size = size }

-- two objects, of which the fourth request only fills, with room for both
abbrev two : ℕ → List ℕ → Priced
two ttl prices = record {
  terms = terms_from Hits 2 0 (false ∷ false ∷ false ∷ true ∷ []);
  unit = 1;
  denominator = 1;
  trace = object 0 1 ∷ object 1 1 ∷ object 0 1 ∷ object 0 1 ∷ object 1 1 ∷ object 0 1 ∷ object 1 1 ∷ object 0 1 ∷ [];
  times = 0 ∷ 1 ∷ 3 ∷ 4 ∷ 4 ∷ 6 ∷ 9 ∷ 9 ∷ [];
  prices = prices;
  ttl = ttl;
}

-- without prices the bound is the greatest score
two_free : map (λ ttl. bound_of (two ttl [])) (0 ∷ 2 ∷ 3 ∷ 5 ∷ 8 ∷ []) ≡ 0 ∷ 1 ∷ 3 ∷ 4 ∷ 5 ∷ []
two_free = refl

-- it grows from request to request
two_grows : map (worths_before (two 3 [])) (0 ∷ 1 ∷ 2 ∷ 3 ∷ 4 ∷ 5 ∷ 6 ∷ 7 ∷ 8 ∷ []) ≡ 0 ∷ 0 ∷ 0 ∷ 1 ∷ 1 ∷ 2 ∷ 3 ∷ 3 ∷ 3 ∷ []
two_grows = refl

-- the objects, and their numbers
two_objects : map (objects_before (two 3 []).trace) (0 ∷ 1 ∷ 2 ∷ 8 ∷ []) ≡ [] ∷ (object 0 1 ∷ []) ∷ (object 0 1 ∷ object 1 1 ∷ []) ∷ (object 0 1 ∷ object 1 1 ∷ []) ∷ []
two_objects = refl

two_number : position (same_object (request_at (two 3 []).trace 4)) (objects_of (two 3 []).trace) ≡ Some 1
two_number = refl

-- an object above the capacity is worth nothing
abbrev above : Priced
above = record {
  terms = terms_from Hits 2 0 [];
  unit = 1;
  denominator = 1;
  trace = object 0 3 ∷ object 0 3 ∷ object 1 2 ∷ object 1 2 ∷ [];
  times = 0 ∷ 0 ∷ 0 ∷ 0 ∷ [];
  prices = [];
  ttl = 1;
}

above_worths : map (worth_before above 4) (object 0 3 ∷ object 1 2 ∷ []) ≡ 0 ∷ 1 ∷ []
above_worths = refl
