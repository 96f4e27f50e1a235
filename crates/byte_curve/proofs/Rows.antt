-- Distances in bytes of a small trace of mixed sizes, computed.
use Rattle.std.proofs.Common.{◌≡◌, ℕ, true, false, List, [], ◌∷◌, map, refl, Some, None}
use Rattle.std.specs.declared.option.Option.{Option}
use Rattle.cache_model.specs.declared.objects.Object.{Object}
use Rattle.cache_model.specs.Objects.{numbers_of}
use Rattle.policy_model.specs.declared.names.PolicyName.TheVariants.{Lru}
use Rattle.policy_model.specs.Runs.{policy_run}
use Rattle.byte_curve.specs.Distances.{byte_distance, hits_within, bytes_within}

abbrev object : ℕ → ℕ → Object
object id size = record { volume = 0; id = id; size = size }

-- A B A C A B C of the sizes 2, 3 and 7
abbrev mixed : List Object
mixed = object 1 2 ∷ object 2 3 ∷ object 1 2 ∷ object 3 7 ∷ object 1 2 ∷ object 2 3 ∷ object 3 7 ∷ []

abbrev distances : ℕ → List (Option ℕ)
distances capacity = map (byte_distance capacity mixed) (numbers_of mixed)

-- below the size of C, which then plays no part
small_distances : distances 6 ≡ None ∷ None ∷ Some 5 ∷ None ∷ Some 2 ∷ Some 5 ∷ None ∷ []
small_distances = refl

-- and otherwise
large_distances : distances 12 ≡ None ∷ None ∷ Some 5 ∷ None ∷ Some 9 ∷ Some 12 ∷ Some 12 ∷ []
large_distances = refl

mixed_hits : map (λ capacity. hits_within capacity 0 mixed []) (0 ∷ 4 ∷ 6 ∷ 9 ∷ 12 ∷ []) ≡ 0 ∷ 1 ∷ 3 ∷ 2 ∷ 4 ∷ []
mixed_hits = refl

mixed_hits_lru : map (λ capacity. (policy_run Lru mixed capacity 0 []).hits) (0 ∷ 4 ∷ 6 ∷ 9 ∷ 12 ∷ []) ≡ 0 ∷ 1 ∷ 3 ∷ 2 ∷ 4 ∷ []
mixed_hits_lru = refl

mixed_bytes : map (λ capacity. bytes_within capacity 0 mixed []) (0 ∷ 4 ∷ 6 ∷ 9 ∷ 12 ∷ []) ≡ 0 ∷ 2 ∷ 7 ∷ 4 ∷ 14 ∷ []
mixed_bytes = refl

mixed_bytes_lru : map (λ capacity. (policy_run Lru mixed capacity 0 []).bytes) (0 ∷ 4 ∷ 6 ∷ 9 ∷ 12 ∷ []) ≡ 0 ∷ 2 ∷ 7 ∷ 4 ∷ 14 ∷ []
mixed_bytes_lru = refl

-- the same after a warm-up of 3 requests, where request 5 only fills
marked_hits : map (λ capacity. hits_within capacity 3 mixed (false ∷ false ∷ false ∷ false ∷ false ∷ true ∷ [])) (6 ∷ 12 ∷ []) ≡ 1 ∷ 2 ∷ []
marked_hits = refl

marked_hits_lru : map (λ capacity. (policy_run Lru mixed capacity 3 (false ∷ false ∷ false ∷ false ∷ false ∷ true ∷ [])).hits) (6 ∷ 12 ∷ []) ≡ 1 ∷ 2 ∷ []
marked_hits_lru = refl
