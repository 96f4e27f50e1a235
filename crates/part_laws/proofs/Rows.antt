-- The definitions at small traces, computed.
use Rattle.std.proofs.Common.{◌≡◌, ℕ, true, false, List, [], ◌∷◌, ◌++◌, refl}
use Rattle.cache_model.specs.declared.objects.Object.{Object}
use Rattle.cache_model.specs.declared.objects.Objective.TheVariants.{Object as Hits, Bytes}
use Rattle.cache_model.specs.Claim.{score, terms_from}
use Rattle.part_laws.specs.Laws.{Part, fills_of, terms_behind, score_between, one_after_the_other, warmup_behind}

abbrev object : ℕ → Object
object id = record { volume = 0; id = id; size = 3 }

-- A B A | A C A at a capacity of one object: A stays
abbrev before : List Object
before = object 1 ∷ object 2 ∷ object 1 ∷ []

abbrev part : List Object
part = object 1 ∷ object 3 ∷ object 1 ∷ []

abbrev only_a : List (List Object)
only_a = [] ∷ (object 1 ∷ []) ∷ (object 1 ∷ []) ∷ (object 1 ∷ []) ∷ (object 1 ∷ []) ∷ (object 1 ∷ []) ∷ (object 1 ∷ []) ∷ []

hits_of_the_whole : score (terms_from Hits 3 0 []) (before ++ part) only_a ≡ 3
hits_of_the_whole = refl

hits_before : score_between Hits (before ++ part) [] only_a 0 3 ≡ 1
hits_before = refl

hits_of_the_part : score_between Hits (before ++ part) [] only_a 3 6 ≡ 2
hits_of_the_part = refl

-- behind the prelude A the part has as many
hits_behind_the_prelude : score (terms_from Hits 3 1 []) (object 1 ∷ part) ([] ∷ (object 1 ∷ []) ∷ (object 1 ∷ []) ∷ (object 1 ∷ []) ∷ (object 1 ∷ []) ∷ []) ≡ 2
hits_behind_the_prelude = refl

-- from its second request on one hit less
bytes_of_the_rest : score_between Bytes (before ++ part) [] only_a 4 6 ≡ 3
bytes_of_the_rest = refl

-- the same two as parts, of which the first request of the second is a write of A: between two reads of A it only fills
abbrev first_part : Part
first_part = record { requests = before; fills = []; prelude = []; marks = []; most = 1 }

abbrev second_part : Part
second_part = record { requests = part; fills = true ∷ []; prelude = object 1 ∷ []; marks = true ∷ true ∷ []; most = 1 }

marks_of_the_whole : fills_of (first_part ∷ second_part ∷ []) ≡ false ∷ false ∷ false ∷ true ∷ false ∷ false ∷ []
marks_of_the_whole = refl

-- its hit earns nothing: one less in the whole, in the part and behind the prelude
hits_with_a_write : score (terms_from Hits 3 0 (fills_of (first_part ∷ second_part ∷ []))) (before ++ part) only_a ≡ 2
hits_with_a_write = refl

hits_of_the_part_with_a_write : score_between Hits (before ++ part) (fills_of (first_part ∷ second_part ∷ [])) only_a 3 6 ≡ 1
hits_of_the_part_with_a_write = refl

hits_behind_the_prelude_with_a_write : score (terms_behind Hits 3 0 before second_part) (object 1 ∷ part) ([] ∷ (object 1 ∷ []) ∷ (object 1 ∷ []) ∷ (object 1 ∷ []) ∷ (object 1 ∷ []) ∷ []) ≡ 1
hits_behind_the_prelude_with_a_write = refl

-- emptied between the two, the first request of the part misses
abbrev emptied : List (List Object)
emptied = one_after_the_other before ([] ∷ (object 1 ∷ []) ∷ (object 1 ∷ []) ∷ (object 1 ∷ []) ∷ []) ([] ∷ (object 1 ∷ []) ∷ (object 1 ∷ []) ∷ [] ∷ [])

what_is_held : emptied ≡ [] ∷ (object 1 ∷ []) ∷ (object 1 ∷ []) ∷ [] ∷ (object 1 ∷ []) ∷ (object 1 ∷ []) ∷ [] ∷ []
what_is_held = refl

hits_emptied : score (terms_from Hits 3 0 []) (before ++ part) emptied ≡ 2
hits_emptied = refl

-- a write that misses takes nothing from the score
hits_emptied_with_a_write : score (terms_from Hits 3 0 (fills_of (first_part ∷ second_part ∷ []))) (before ++ part) emptied ≡ 2
hits_emptied_with_a_write = refl

-- of a warm-up of four requests one falls into the part, behind its prelude of one
warmup_of_the_part : warmup_behind 1 3 4 ≡ 2
warmup_of_the_part = refl
