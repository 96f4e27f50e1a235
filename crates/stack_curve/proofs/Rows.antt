-- Curves of small traces, computed.
use Rattle.std.proofs.Common.{◌≡◌, ℕ, Bool, true, false, List, [], ◌∷◌, map, refl, Some, None, set, replicate, count_by}
use Rattle.std.specs.declared.option.Option.{Option}
use Rattle.std.specs.Prelude.{slice_range}
use Rattle.cache_model.specs.declared.objects.Object.{Object}
use Rattle.cache_model.specs.Objects.{numbers_of}
use Rattle.policy_model.specs.declared.names.PolicyName.TheVariants.{Lru}
use Rattle.policy_model.specs.Runs.{policy_run}
use Rattle.stack_curve.specs.Distances.{curve_hits, stack_distance}

abbrev object : ℕ → Object
object id = record { volume = 0; id = id; size = 1 }

abbrev distances : List Object → List (Option ℕ)
distances trace = map (stack_distance trace) (numbers_of trace)

-- A B A C B A
abbrev mixed : List Object
mixed = object 1 ∷ object 2 ∷ object 1 ∷ object 3 ∷ object 2 ∷ object 1 ∷ []

mixed_distances : distances mixed ≡ None ∷ None ∷ Some 2 ∷ None ∷ Some 3 ∷ Some 3 ∷ []
mixed_distances = refl

mixed_curve : map (curve_hits mixed []) (0 ∷ 1 ∷ 2 ∷ 3 ∷ 4 ∷ []) ≡ 0 ∷ 0 ∷ 1 ∷ 3 ∷ 3 ∷ []
mixed_curve = refl

mixed_lru : map (λ capacity. (policy_run Lru mixed capacity 0 []).hits) (1 ∷ 2 ∷ 3 ∷ []) ≡ 0 ∷ 1 ∷ 3 ∷ []
mixed_lru = refl

-- the same, of which the fifth request only fills
mixed_marked : map (curve_hits mixed (false ∷ false ∷ false ∷ false ∷ true ∷ [])) (0 ∷ 1 ∷ 2 ∷ 3 ∷ 4 ∷ []) ≡ 0 ∷ 0 ∷ 1 ∷ 2 ∷ 2 ∷ []
mixed_marked = refl

marked_lru : map (λ capacity. (policy_run Lru mixed capacity 0 (false ∷ false ∷ false ∷ false ∷ true ∷ [])).hits) (1 ∷ 2 ∷ 3 ∷ []) ≡ 0 ∷ 1 ∷ 2 ∷ []
marked_lru = refl

-- A B C A B C
abbrev cycle : List Object
cycle = object 1 ∷ object 2 ∷ object 3 ∷ object 1 ∷ object 2 ∷ object 3 ∷ []

cycle_curve : map (curve_hits cycle []) (0 ∷ 1 ∷ 2 ∷ 3 ∷ 4 ∷ []) ≡ 0 ∷ 0 ∷ 0 ∷ 3 ∷ 3 ∷ []
cycle_curve = refl

-- four places, of which 1 and 3 are marked
abbrev marks : List Bool
marks = set (set (replicate 4 false) 1 true) 3 true

marks_all : count_by (λ on. on) (slice_range marks 0 4) ≡ 2
marks_all = refl

marks_first : count_by (λ on. on) (slice_range marks 0 3) ≡ 1
marks_first = refl
