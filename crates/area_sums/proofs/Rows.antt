-- The definitions at small cases, computed. The bounds are those of a second program.
use Rattle.std.proofs.Common.{◌≡◌, ℕ, ◌^◌, List, [], ◌∷◌, map, refl}
use Rattle.cache_model.specs.declared.objects.Objective.TheVariants.{Object as Hits, Bytes}
use Rattle.area_sums.specs.declared.bound.EdgeBound.{EdgeBound}
use Rattle.area_sums.specs.Short.{class_of, class_within, short_at}
use Rattle.area_sums.specs.Spans.{Span}
use Rattle.area_sums.specs.Bounds.{bound_at, floor_of}
use Rattle.area_sums.specs.Groups.{place_of}

-- short numbers: all below 4096, then every second one, and every fourth from 8192 on
classes : map class_of (0 ∷ 2047 ∷ 2048 ∷ 4095 ∷ 4096 ∷ 4097 ∷ 4098 ∷ 8191 ∷ 8192 ∷ []) ≡ 0 ∷ 2047 ∷ 2048 ∷ 4095 ∷ 4096 ∷ 4096 ∷ 4097 ∷ 6143 ∷ 6144 ∷ []
unfolding class_of class_within
classes = refl

short_numbers : map short_at (0 ∷ 2047 ∷ 2048 ∷ 4095 ∷ 4096 ∷ 4097 ∷ 6143 ∷ 6144 ∷ 6145 ∷ []) ≡ 0 ∷ 2047 ∷ 2048 ∷ 4095 ∷ 4096 ∷ 4098 ∷ 8190 ∷ 8192 ∷ 8196 ∷ []
unfolding short_at
short_numbers = refl

top_class : short_at 143360 ≡ 2 ^ 80
unfolding short_at
top_class = refl

-- the requests A B A C C B A A, where A is of size 2, B of 1 and C of 3
abbrev spans : List Span
spans =
    record { size = 2; length = 2 } ∷ record { size = 3; length = 1 } ∷ record { size = 1; length = 4 }
    ∷ record { size = 2; length = 4 } ∷ record { size = 2; length = 1 } ∷ []

-- the bounds of all edges that are tried, at a capacity of 2
abbrev numerators : (ℕ → EdgeBound) → List ℕ → List ℕ
numerators bound edges = map (λ edge. (bound edge).upper) edges

hits_at_two : numerators (bound_at Hits 2 7 spans) (1 ∷ 2 ∷ 3 ∷ 4 ∷ 5 ∷ 8 ∷ 9 ∷ []) ≡ 4 ∷ 14 ∷ 15 ∷ 16 ∷ 19 ∷ 28 ∷ 32 ∷ []
hits_at_two = refl

bytes_at_two : numerators (bound_at Bytes 2 7 spans) (1 ∷ 2 ∷ 3 ∷ 4 ∷ 5 ∷ []) ≡ 7 ∷ 16 ∷ 20 ∷ 24 ∷ 31 ∷ []
bytes_at_two = refl

-- 5 is the least edge with the least floor for hits, and 3 the one for bytes
floors_at_two : map (λ edge. floor_of (bound_at Hits 2 7 spans edge)) (1 ∷ 4 ∷ 5 ∷ 8 ∷ 9 ∷ []) ≡ 4 ∷ 4 ∷ 3 ∷ 3 ∷ 3 ∷ []
floors_at_two = refl

byte_floors_at_two : map (λ edge. floor_of (bound_at Bytes 2 7 spans edge)) (1 ∷ 2 ∷ 3 ∷ 4 ∷ 5 ∷ []) ≡ 7 ∷ 8 ∷ 6 ∷ 6 ∷ 6 ∷ []
byte_floors_at_two = refl

-- at a capacity of 4 no price is best
floors_at_four : map (λ edge. floor_of (bound_at Hits 4 7 spans edge)) (1 ∷ 2 ∷ 5 ∷ 9 ∷ []) ≡ 5 ∷ 14 ∷ 7 ∷ 5 ∷ []
floors_at_four = refl

-- the first of three capacities that holds an object
places : map (place_of (1 ∷ 2 ∷ 4 ∷ [])) (1 ∷ 2 ∷ 3 ∷ 4 ∷ 5 ∷ []) ≡ 0 ∷ 1 ∷ 2 ∷ 2 ∷ 3 ∷ []
places = refl
