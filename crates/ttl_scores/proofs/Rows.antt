-- The definitions at small traces, computed.
use Rattle.std.proofs.Common.{◌≡◌, ℕ, Bool, true, false, List, [], ◌∷◌, length, map, replicate, refl}
use Rattle.cache_model.specs.declared.objects.Object.{Object}
use Rattle.cache_model.specs.declared.objects.Objective.TheVariants.{Object as Hits, Bytes}
use Rattle.cache_model.specs.Claim.{contents_of, terms_from}
use Rattle.cache_model.specs.Objects.{numbers_of}
use Rattle.ttl_laws.specs.Fresh.{score_with_ttl}
use Rattle.ttl_scores.specs.Written.{writes_own, written_with_ttl}

abbrev object : ℕ → ℕ → Object
object id size = record { volume = 0; id = id; size = size }

-- what holds all that was asked for
abbrev all : List Object → List (List Object)
all trace = contents_of trace (replicate (length trace) true)

-- its hits, and its written bytes
abbrev hits : List Bool → List Object → List ℕ → ℕ → ℕ
hits fills trace times ttl = score_with_ttl (terms_from Hits 2 0 fills) trace times ttl (all trace)

abbrev writes : List Bool → List Object → List ℕ → ℕ → ℕ
writes fills trace times ttl = written_with_ttl 0 fills trace times ttl (all trace)

-- one object, every two seconds
abbrev five : List Object
five = replicate 5 (object 0 1)

abbrev evenly : List ℕ
evenly = 0 ∷ 2 ∷ 4 ∷ 6 ∷ 8 ∷ []

five_hits : map (hits [] five evenly) (1 ∷ 2 ∷ 3 ∷ 4 ∷ 6 ∷ 8 ∷ []) ≡ 0 ∷ 2 ∷ 2 ∷ 3 ∷ 3 ∷ 4 ∷ []
five_hits = refl

five_writes : map (writes [] five evenly) (1 ∷ 2 ∷ 3 ∷ 4 ∷ 6 ∷ 8 ∷ []) ≡ 5 ∷ 3 ∷ 3 ∷ 2 ∷ 2 ∷ 1 ∷ []
five_writes = refl

-- every other request is a fresh hit, and writes nothing
five_written : map (writes_own [] five evenly 2 (all five)) (numbers_of five) ≡ true ∷ false ∷ true ∷ false ∷ true ∷ []
five_written = refl

-- a request in the warm-up writes for nothing
five_warm : map (λ warmup. written_with_ttl warmup [] five evenly 2 (all five)) (0 ∷ 1 ∷ 2 ∷ 3 ∷ 5 ∷ []) ≡ 3 ∷ 2 ∷ 2 ∷ 1 ∷ 0 ∷ []
five_warm = refl

-- a request that only fills writes anew, if its object stays
five_filled : map (writes_own (false ∷ true ∷ []) five evenly 4 (all five)) (numbers_of five) ≡ true ∷ true ∷ false ∷ false ∷ true ∷ []
five_filled = refl

-- what isn't kept is not written
five_dropped : map (writes_own [] five evenly 2 (contents_of five (true ∷ true ∷ false ∷ true ∷ false ∷ []))) (numbers_of five)
    ≡ true ∷ false ∷ false ∷ true ∷ false ∷ []
five_dropped = refl

-- two objects, and a request that only fills
abbrev two : List Object
two = object 0 1 ∷ object 1 1 ∷ object 0 1 ∷ object 0 1 ∷ object 1 1 ∷ object 0 1 ∷ object 1 1 ∷ object 0 1 ∷ []

abbrev filled : List Bool
filled = false ∷ false ∷ false ∷ true ∷ []

abbrev two_times : List ℕ
two_times = 0 ∷ 1 ∷ 3 ∷ 4 ∷ 4 ∷ 6 ∷ 9 ∷ 9 ∷ []

two_hits : map (hits filled two two_times) (0 ∷ 2 ∷ 3 ∷ 5 ∷ 8 ∷ []) ≡ 0 ∷ 1 ∷ 3 ∷ 4 ∷ 5 ∷ []
two_hits = refl

two_writes : map (writes filled two two_times) (0 ∷ 2 ∷ 3 ∷ 5 ∷ 8 ∷ []) ≡ 8 ∷ 7 ∷ 5 ∷ 4 ∷ 3 ∷ []
two_writes = refl

-- times that go back
abbrev three : List Object
three = replicate 3 (object 0 1)

abbrev back : List ℕ
back = 5 ∷ 3 ∷ 9 ∷ []

three_hits : map (hits [] three back) (0 ∷ 3 ∷ 4 ∷ []) ≡ 1 ∷ 1 ∷ 2 ∷ []
three_hits = refl

three_writes : map (writes [] three back) (0 ∷ 3 ∷ 4 ∷ []) ≡ 2 ∷ 2 ∷ 1 ∷ []
three_writes = refl

-- the two objects in bytes, the first of 2
abbrev large : List Object
large = object 0 2 ∷ object 1 1 ∷ object 0 2 ∷ object 0 2 ∷ object 1 1 ∷ object 0 2 ∷ object 1 1 ∷ object 0 2 ∷ []

large_bytes : map (λ ttl. score_with_ttl (terms_from Bytes 3 0 filled) large two_times ttl (all large)) (0 ∷ 2 ∷ 3 ∷ 5 ∷ 8 ∷ []) ≡ 0 ∷ 2 ∷ 5 ∷ 7 ∷ 8 ∷ []
large_bytes = refl

large_writes : map (writes filled large two_times) (0 ∷ 2 ∷ 3 ∷ 5 ∷ 8 ∷ []) ≡ 13 ∷ 11 ∷ 8 ∷ 6 ∷ 5 ∷ []
large_writes = refl
