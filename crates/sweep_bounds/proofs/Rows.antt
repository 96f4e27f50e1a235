-- The definitions at small traces, computed. The spans and the bounds are those of a second program.
use Rattle.std.proofs.Common.{◌≡◌, ℕ, true, false, Bool, List, [], ◌∷◌, map, refl}
use Rattle.cache_model.specs.declared.objects.Object.{Object}
use Rattle.cache_model.specs.declared.objects.Objective.{Objective}
use Rattle.cache_model.specs.declared.objects.Objective.TheVariants.{Object as Hits, Bytes}
use Rattle.cache_model.specs.Claim.{terms_from}
use Rattle.area_sums.specs.Spans.{Span}
use Rattle.sweep_bounds.specs.Bounds.{bound_over}
use Rattle.sweep_bounds.specs.Spans.{last_before, spans_of}

abbrev object : ℕ → ℕ → Object
object id size = record { volume = 0; id = id; size = size }

abbrev a : Object
a = object 1 2

abbrev b : Object
b = object 2 1

abbrev c : Object
c = object 3 3

abbrev span : ℕ → ℕ → Span
span size length = record { size = size; length = length }

-- A B A C C B A A
abbrev trace : List Object
trace = a ∷ b ∷ a ∷ c ∷ c ∷ b ∷ a ∷ a ∷ []

last_of_first : last_before trace 3 ≡ []
last_of_first = refl

last_of_seventh : last_before trace 6 ≡ 2 ∷ []
last_of_seventh = refl

spans : spans_of 0 0 [] trace ≡ span 2 2 ∷ span 3 1 ∷ span 1 4 ∷ span 2 4 ∷ span 2 1 ∷ []
spans = refl

-- those of a warm-up of three requests, of marks, and of a delay
past_the_warmup : spans_of 3 0 [] trace ≡ span 3 1 ∷ span 1 4 ∷ span 2 4 ∷ span 2 1 ∷ []
past_the_warmup = refl

without_filling : spans_of 0 0 (false ∷ false ∷ true ∷ false ∷ false ∷ false ∷ true ∷ []) trace ≡ span 3 1 ∷ span 1 4 ∷ span 2 1 ∷ []
without_filling = refl

with_a_delay : spans_of 0 2 [] trace ≡ span 2 0 ∷ span 3 0 ∷ span 1 2 ∷ span 2 2 ∷ span 2 0 ∷ []
with_a_delay = refl

-- an object of another size is another object
other_size : spans_of 0 0 [] (object 1 2 ∷ object 1 3 ∷ object 1 2 ∷ []) ≡ span 2 2 ∷ []
other_size = refl

no_request : spans_of 0 0 [] [] ≡ []
no_request = refl

-- the bounds at a capacity of 2: 5 is the least edge with the least floor for hits, and 3 the one for bytes
abbrev numerators : Objective → List ℕ → List ℕ
numerators objective edges = map (λ edge. (bound_over (terms_from objective 2 0 []) 0 trace edge).upper) edges

hits_at_two : numerators Hits (1 ∷ 2 ∷ 3 ∷ 4 ∷ 5 ∷ 8 ∷ 9 ∷ []) ≡ 4 ∷ 14 ∷ 15 ∷ 16 ∷ 19 ∷ 28 ∷ 32 ∷ []
hits_at_two = refl

bytes_at_two : numerators Bytes (1 ∷ 2 ∷ 3 ∷ 4 ∷ 5 ∷ []) ≡ 7 ∷ 16 ∷ 20 ∷ 24 ∷ 31 ∷ []
bytes_at_two = refl

-- C C A B B B B B A C, of which the eighth only fills, at a capacity of 3 with a warm-up of two and a delay of one
abbrev marked : List Object
marked = c ∷ c ∷ a ∷ b ∷ b ∷ b ∷ b ∷ b ∷ a ∷ c ∷ []

abbrev fills : List Bool
fills = false ∷ false ∷ false ∷ false ∷ false ∷ false ∷ false ∷ true ∷ false ∷ false ∷ []

spans_marked : spans_of 2 1 fills marked ≡ span 1 0 ∷ span 1 0 ∷ span 1 0 ∷ span 2 5 ∷ span 3 7 ∷ []
spans_marked = refl

hits_marked : bound_over (terms_from Hits 3 2 fills) 1 marked 21 ≡ record { upper = 101; edge = 21 }
hits_marked = refl

bytes_marked : bound_over (terms_from Bytes 3 2 fills) 1 marked 6 ≡ record { upper = 47; edge = 6 }
bytes_marked = refl
