-- The definitions at small traces, computed.
use Rattle.std.proofs.Common.{◌≡◌, ℕ, suc, zero, Bool, true, false, List, [], ◌∷◌, length, map, replicate, refl, Some, None}
use Rattle.cache_model.specs.declared.objects.Object.{Object}
use Rattle.cache_model.specs.declared.objects.Objective.TheVariants.{Object as Hits, Bytes}
use Rattle.cache_model.specs.Claim.{Terms, contents_of, terms_from}
use Rattle.cache_model.specs.Objects.{numbers_of}
use Rattle.cache_model.specs.Intervals.{eligible_intervals, bound_of}
use Rattle.freshness.specs.Stale.{stale_marks}
use Rattle.ttl_laws.specs.Fresh.{is_fresh_hit, score_with_ttl}
use Rattle.ttl_laws.specs.Runs.{bound_with_ttl, walk}

abbrev object : ℕ → Object
object id = record { volume = 0; id = id; size = 1 }

-- hits, with room for all, and these marks
abbrev hits : List Bool → Terms
hits fills = terms_from Hits 2 0 fills

-- without prices, in hits
abbrev free : List Object → List ℕ
free trace = replicate (length trace) 0

abbrev most : List Bool → List Object → List ℕ → ℕ → ℕ
most fills trace times ttl = bound_with_ttl (hits fills) 1 1 trace times (free trace) ttl

-- the same of the intervals no longer than the time
abbrev most_idle : List Bool → List Object → List ℕ → ℕ → ℕ
most_idle fills trace times idle =
    let marks = stale_marks (record { idle = Some idle; ttl = None; replace = false }) trace times fills in
    bound_of (eligible_intervals (hits marks) trace) 1 2 1 (free trace)

-- one object, every two seconds
abbrev five : List Object
five = object 0 ∷ object 0 ∷ object 0 ∷ object 0 ∷ object 0 ∷ []

abbrev evenly : List ℕ
evenly = 0 ∷ 2 ∷ 4 ∷ 6 ∷ 8 ∷ []

five_ttl : map (most [] five evenly) (1 ∷ 2 ∷ 3 ∷ 4 ∷ 6 ∷ 8 ∷ []) ≡ 0 ∷ 2 ∷ 2 ∷ 3 ∷ 3 ∷ 4 ∷ []
five_ttl = refl

five_idle : map (most_idle [] five evenly) (1 ∷ 2 ∷ 3 ∷ 4 ∷ 6 ∷ 8 ∷ []) ≡ 0 ∷ 4 ∷ 4 ∷ 4 ∷ 4 ∷ 4 ∷ []
five_idle = refl

-- what always holds it hits every other request, or two of three, and a hit renews nothing
abbrev always : List (List Object)
always = contents_of five (replicate 5 true)

five_hits : map (is_fresh_hit [] five evenly 2 always) (numbers_of five) ≡ false ∷ true ∷ false ∷ true ∷ false ∷ []
five_hits = refl

five_hits_4 : map (is_fresh_hit [] five evenly 4 always) (numbers_of five) ≡ false ∷ true ∷ true ∷ false ∷ true ∷ []
five_hits_4 = refl

-- a request that only fills renews what stays
five_renewed : map (is_fresh_hit (false ∷ true ∷ []) five evenly 4 always) (numbers_of five) ≡ false ∷ false ∷ true ∷ true ∷ false ∷ []
five_renewed = refl

-- a fresh hit in the warm-up earns nothing, and renews nothing
five_warm : score_with_ttl (terms_from Hits 2 2 []) five evenly 2 always ≡ 1
five_warm = refl

-- so with a warm-up contents can score more with a shorter ttl, as they write anew earlier
abbrev renewing : List ℕ
renewing = 0 ∷ 3 ∷ 4 ∷ 5 ∷ 5 ∷ []

warm_ttl : map (λ ttl. score_with_ttl (terms_from Hits 2 2 []) five renewing ttl always) (2 ∷ 3 ∷ []) ≡ 3 ∷ 2 ∷ []
warm_ttl = refl

-- at a price of 1 for each step, over 4, with room for the one object
abbrev priced : List ℕ → ℕ → ℕ
priced prices ttl = bound_with_ttl (terms_from Hits 1 0 []) 1 4 five evenly prices ttl

five_priced : map (priced (1 ∷ 1 ∷ 1 ∷ 1 ∷ 0 ∷ [])) (1 ∷ 2 ∷ 4 ∷ 8 ∷ []) ≡ 4 ∷ 10 ∷ 13 ∷ 16 ∷ []
five_priced = refl

-- two objects, and a request that only fills
abbrev two : List Object
two = object 0 ∷ object 1 ∷ object 0 ∷ object 0 ∷ object 1 ∷ object 0 ∷ object 1 ∷ object 0 ∷ []

abbrev filled : List Bool
filled = false ∷ false ∷ false ∷ true ∷ []

abbrev two_times : List ℕ
two_times = 0 ∷ 1 ∷ 3 ∷ 4 ∷ 4 ∷ 6 ∷ 9 ∷ 9 ∷ []

two_ttl : map (most filled two two_times) (0 ∷ 2 ∷ 3 ∷ 5 ∷ 8 ∷ []) ≡ 0 ∷ 1 ∷ 3 ∷ 4 ∷ 5 ∷ []
two_ttl = refl

two_idle : map (most_idle filled two two_times) (0 ∷ 2 ∷ 3 ∷ 5 ∷ 8 ∷ []) ≡ 0 ∷ 1 ∷ 4 ∷ 5 ∷ 5 ∷ []
two_idle = refl

-- times that go back
abbrev three : List Object
three = object 0 ∷ object 0 ∷ object 0 ∷ []

abbrev back : List ℕ
back = 5 ∷ 3 ∷ 9 ∷ []

three_ttl : map (most [] three back) (0 ∷ 3 ∷ 4 ∷ []) ≡ 1 ∷ 1 ∷ 2 ∷ []
three_ttl = refl

three_idle : map (most_idle [] three back) (0 ∷ 3 ∷ 4 ∷ []) ≡ 1 ∷ 1 ∷ 2 ∷ []
three_idle = refl

-- the two objects in bytes, the first of 2, past a first request, over 4
abbrev sized : ℕ → Object
sized zero = record { volume = 0; id = 0; size = 2 }
sized (suc n) = object (suc n)

abbrev large : List Object
large = sized 0 ∷ sized 1 ∷ sized 0 ∷ sized 0 ∷ sized 1 ∷ sized 0 ∷ sized 1 ∷ sized 0 ∷ []

abbrev bytes : Terms
bytes = terms_from Bytes 3 1 filled

abbrev uneven : List ℕ
uneven = 1 ∷ 0 ∷ 2 ∷ 1 ∷ 1 ∷ 0 ∷ 3 ∷ 0 ∷ []

large_ttl : map (bound_with_ttl bytes 1 4 large two_times uneven) (0 ∷ 2 ∷ 3 ∷ 5 ∷ 8 ∷ []) ≡ 24 ∷ 28 ∷ 35 ∷ 39 ∷ 40 ∷ []
large_ttl = refl

large_worth : map (λ ttl. (walk bytes 1 4 large two_times uneven ttl 8 (sized 0)).top) (0 ∷ 2 ∷ 3 ∷ 5 ∷ 8 ∷ []) ≡ 0 ∷ 4 ∷ 10 ∷ 12 ∷ 12 ∷ []
large_worth = refl

large_pairs : map (bound_with_ttl bytes 2 4 large two_times uneven) (0 ∷ 2 ∷ 3 ∷ 5 ∷ 8 ∷ []) ≡ 8 ∷ 14 ∷ 25 ∷ 30 ∷ 34 ∷ []
large_pairs = refl
