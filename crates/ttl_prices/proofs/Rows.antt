-- Bounds of one price with a ttl, computed on worked traces.
use Rattle.std.proofs.Common.{◌≡◌, ℕ, [], ◌∷◌, map, refl}
use Rattle.cache_model.specs.declared.objects.Object.{Object}
use Rattle.cache_model.specs.declared.objects.Objective.TheVariants.{Object as Hits}
use Rattle.cache_model.specs.declared.terms.Terms.{Terms}
use Rattle.cache_rules.specs.Stored.{Requests}
use Rattle.ttl_prices.specs.Bounds.{bound_of_price}

abbrev object : ℕ → ℕ → Object
object id size = record { volume = 0; id = id; size = size }

-- two objects in turn, each asked for twice
abbrev turns : Requests
turns = record { objects = object 0 1 ∷ object 1 1 ∷ object 0 1 ∷ object 1 1 ∷ []; fills = [] }

abbrev one_unit : Terms
one_unit = record { objective = Hits; capacity = 1; warmup = 0 }

-- at one unit over 4 each interval covers two of the three steps that have the price
turns_fresh : map (bound_of_price one_unit 1 4 turns (0 ∷ 1 ∷ 2 ∷ 3 ∷ []) 2) (0 ∷ 1 ∷ 2 ∷ 3 ∷ []) ≡ 8 ∷ 7 ∷ 6 ∷ 9 ∷ []
turns_fresh = refl

-- if both hits come too late, the prices alone are paid
turns_late : map (bound_of_price one_unit 1 4 turns (0 ∷ 1 ∷ 2 ∷ 3 ∷ []) 1) (0 ∷ 1 ∷ 2 ∷ 3 ∷ []) ≡ 0 ∷ 3 ∷ 6 ∷ 9 ∷ []
turns_late = refl

-- after a time of 3 a time of 0 counts as 3: the first hit is too late, and the second is not
turns_back : map (bound_of_price one_unit 1 4 turns (0 ∷ 3 ∷ 0 ∷ 3 ∷ []) 1) (0 ∷ 1 ∷ 2 ∷ 3 ∷ []) ≡ 4 ∷ 5 ∷ 6 ∷ 9 ∷ []
turns_back = refl

-- of an object above the capacity there is nothing but its step to pay
above : bound_of_price one_unit 1 4 (record { objects = object 0 2 ∷ object 0 2 ∷ []; fills = [] }) (0 ∷ 0 ∷ []) 1 1 ≡ 1
above = refl
