-- The definitions at small traces, computed.
use Rattle.std.proofs.Common.{◌≡◌, ℕ, true, false, List, [], ◌∷◌, map, refl, replicate, None, Some}
use Rattle.cache_model.specs.declared.objects.Object.{Object}
use Rattle.cache_model.specs.Objects.{numbers_of}
use Rattle.ttl_judge.specs.Ages.{age_at, first_too_old}

-- one object, every two seconds
abbrev five : List Object
five = replicate 5 (record { volume = 0; id = 0; size = 1 })

abbrev evenly : List ℕ
evenly = 0 ∷ 2 ∷ 4 ∷ 6 ∷ 8 ∷ []

-- a hit renews nothing
all_hit : map (age_at [] five evenly (false ∷ true ∷ true ∷ true ∷ true ∷ [])) (numbers_of five) ≡ 0 ∷ 2 ∷ 4 ∷ 6 ∷ 8 ∷ []
all_hit = refl

-- a miss does, and so does a request that only fills
one_missed : map (age_at [] five evenly (false ∷ true ∷ false ∷ true ∷ true ∷ [])) (numbers_of five) ≡ 0 ∷ 2 ∷ 4 ∷ 2 ∷ 4 ∷ []
one_missed = refl

one_filled : map (age_at (false ∷ false ∷ true ∷ []) five evenly (false ∷ true ∷ true ∷ true ∷ true ∷ [])) (numbers_of five) ≡ 0 ∷ 2 ∷ 4 ∷ 2 ∷ 4 ∷ []
one_filled = refl

-- an age of the ttl is none too old
first_old : map (λ ttl. first_too_old [] five evenly ttl (false ∷ true ∷ true ∷ true ∷ true ∷ [])) (3 ∷ 4 ∷ 8 ∷ [])
    ≡ Some (record { request = 2; age = 4 }) ∷ Some (record { request = 3; age = 6 }) ∷ None ∷ []
first_old = refl

-- times that go back
back : map (age_at [] (replicate 3 (record { volume = 0; id = 0; size = 1 })) (5 ∷ 3 ∷ 9 ∷ []) (false ∷ true ∷ true ∷ [])) (0 ∷ 1 ∷ 2 ∷ []) ≡ 5 ∷ 0 ∷ 4 ∷ []
back = refl
