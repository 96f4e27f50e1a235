-- The definitions at small traces, computed.
use Rattle.std.proofs.Common.{◌≡◌, ℕ, zero, suc, ◌<◌, ◌≤◌, true, false, Bool, List, [], ◌∷◌, map, refl, arith}
use Rattle.std.specs.Prelude.{IsTrue}
use Rattle.cache_model.specs.declared.objects.Object.{Object}
use Rattle.cache_model.specs.declared.objects.Objective.TheVariants.{Object as Hits, Bytes}
use Rattle.cache_model.specs.Claim.{request_at, terms_from}
use Rattle.cache_model.specs.Objects.{is_first, numbers_of}
use Rattle.judge_laws.specs.Flags.{is_flagged, flagged_load, claimed, IsPossible}

abbrev object : ℕ → ℕ → Object
object id size = record { volume = 0; id = id; size = size }

-- A(2) B(3) A(2) B(3)
abbrev trace : List Object
trace = object 1 2 ∷ object 2 3 ∷ object 1 2 ∷ object 2 3 ∷ []

-- the second request of each is flagged
abbrev both : List Bool
both = false ∷ false ∷ true ∷ true ∷ []

loads_of_both : map (flagged_load 5 trace both) (numbers_of trace) ≡ 2 ∷ 5 ∷ 3 ∷ 0 ∷ []
loads_of_both = refl

hits_claimed : claimed (terms_from Hits 5 0 []) trace both ≡ 2
hits_claimed = refl

bytes_claimed : claimed (terms_from Bytes 5 0 []) trace both ≡ 5
bytes_claimed = refl

-- a flag in the warm-up claims nothing, nor does one of a request that only fills
bytes_past_the_warmup : claimed (terms_from Bytes 5 3 []) trace both ≡ 3
bytes_past_the_warmup = refl

bytes_with_a_write : claimed (terms_from Bytes 5 0 (false ∷ false ∷ false ∷ true ∷ [])) trace both ≡ 2
bytes_with_a_write = refl

-- at a capacity of both the flags are possible
both_are_possible : IsPossible 5 trace both
both_are_possible = record { asked_before = asked; fits = fits; within_capacity = loads }
  where
    asked : (t : ℕ) → t < 4 → IsTrue (is_flagged both t) → is_first trace t ≡ false
    asked zero within flagged = cc
    asked (suc zero) within flagged = cc
    asked (suc (suc zero)) within flagged = refl
    asked (suc (suc (suc zero))) within flagged = refl
    asked (suc (suc (suc (suc t)))) within flagged = absurd (omega arith)

    fits : (t : ℕ) → t < 4 → IsTrue (is_flagged both t) → (request_at trace t).size ≤ 5
    fits zero within flagged = omega arith
    fits (suc zero) within flagged = omega arith
    fits (suc (suc zero)) within flagged = omega arith
    fits (suc (suc (suc zero))) within flagged = omega arith
    fits (suc (suc (suc (suc t)))) within flagged = absurd (omega arith)

    loads : (t : ℕ) → t < 4 → flagged_load 5 trace both t ≤ 5
    loads zero within = omega arith
    loads (suc zero) within = omega arith
    loads (suc (suc zero)) within = omega arith
    loads (suc (suc (suc zero))) within = omega arith
    loads (suc (suc (suc (suc t)))) within = absurd (omega arith)

-- at one byte less they are not
one_byte_too_small : IsPossible 4 trace both → ⊥
one_byte_too_small possible = let over : 5 ≤ 4 = possible.within_capacity 1 (omega arith) in omega arith

-- nor at a capacity below the size of B
too_large : IsPossible 2 trace both → ⊥
too_large possible = let over : 3 ≤ 2 = possible.fits 3 (omega arith) refl in omega arith

-- the first request of A is no hit
never_asked_before : IsPossible 5 trace (true ∷ []) → ⊥
never_asked_before possible = let first : true ≡ false = possible.asked_before 0 (omega arith) refl in cc

-- A B C A B C at a capacity of two objects
abbrev cycle : List Object
cycle = object 1 1 ∷ object 2 1 ∷ object 3 1 ∷ object 1 1 ∷ object 2 1 ∷ object 3 1 ∷ []

two_of_three : map (flagged_load 2 cycle (false ∷ false ∷ false ∷ true ∷ true ∷ false ∷ [])) (numbers_of cycle) ≡ 1 ∷ 2 ∷ 2 ∷ 1 ∷ 0 ∷ 0 ∷ []
two_of_three = refl

one_flag_too_many : IsPossible 2 cycle (false ∷ false ∷ false ∷ true ∷ true ∷ true ∷ []) → ⊥
one_flag_too_many possible = let over : 3 ≤ 2 = possible.within_capacity 2 (omega arith) in omega arith
