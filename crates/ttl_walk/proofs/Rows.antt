-- The definitions at small lists, computed.
use Rattle.std.proofs.Common.{◌≡◌, ℕ, Bool, true, false, List, [], ◌∷◌, map, take, refl}
use Rattle.cache_model.specs.declared.objects.Object.{Object}
use Rattle.cache_model.specs.declared.objects.Objective.TheVariants.{Object as Hits}
use Rattle.cache_model.specs.Claim.{terms_from}
use Rattle.ttl_laws.specs.Runs.{walk}
use Rattle.ttl_walk.specs.declared.asked.Asked.{Asked}
use Rattle.ttl_walk.specs.declared.starts.Candidate.{Candidate}
use Rattle.ttl_walk.specs.Queue.{begins_old, ends_no_lower, first_worth, going_on, with_candidate}
use Rattle.ttl_walk.specs.Requests.{prices_since, requests_of, walk_over}

abbrev start : ℕ → ℕ → Candidate
start clock floor = record { clock = clock; floor = floor }

abbrev asked : ℕ → Bool → ℕ → ℕ → Asked
asked clock fills gain priced = record { clock = clock; fills = fills; gain = gain; priced = priced }

-- the greatest worth after each request, with a ttl of 1, 2, 4 and 5: that of all choices of runs, by a program that tries each
abbrev nine : List Asked
nine =
    asked 0 false 0 0 ∷ asked 2 false 4 1 ∷ asked 3 false 4 6 ∷ asked 5 false 4 2 ∷ asked 6 true 0 1 ∷ asked 7 false 4 3 ∷ asked 9 false 0 2
    ∷ asked 10 false 4 1 ∷ asked 14 false 9 2 ∷ []

abbrev tops : ℕ → List ℕ
tops ttl = map (λ n. (walk_over ttl (take n nine)).top) (1 ∷ 2 ∷ 3 ∷ 4 ∷ 5 ∷ 6 ∷ 7 ∷ 8 ∷ 9 ∷ [])

tops-1 : tops 1 ≡ 0 ∷ 0 ∷ 0 ∷ 0 ∷ 0 ∷ 1 ∷ 1 ∷ 4 ∷ 4 ∷ []
tops-1 = refl

tops-2 : tops 2 ≡ 0 ∷ 3 ∷ 3 ∷ 5 ∷ 5 ∷ 6 ∷ 6 ∷ 9 ∷ 9 ∷ []
tops-2 = refl

tops-4 : tops 4 ≡ 0 ∷ 3 ∷ 3 ∷ 5 ∷ 5 ∷ 6 ∷ 6 ∷ 9 ∷ 13 ∷ []
tops-4 = refl

tops-5 : tops 5 ≡ 0 ∷ 3 ∷ 3 ∷ 5 ∷ 5 ∷ 6 ∷ 6 ∷ 9 ∷ 16 ∷ []
tops-5 = refl

-- a queue
abbrev three : List Candidate
three = start 3 10 ∷ start 5 12 ∷ start 8 17 ∷ []

-- at clock 8 an age of exactly the ttl is fresh
ages : map (λ ttl. going_on false ttl 8 three) (5 ∷ 4 ∷ 2 ∷ 0 ∷ [])
    ≡ three ∷ (start 5 12 ∷ start 8 17 ∷ []) ∷ (start 8 17 ∷ []) ∷ (start 8 17 ∷ []) ∷ []
ages = refl

ages-begins : map (λ ttl. begins_old ttl 8 three) (5 ∷ 4 ∷ []) ≡ false ∷ true ∷ []
ages-begins = refl

filled : going_on true 5 8 three ≡ []
filled = refl

worths : map (λ level. first_worth level three) (15 ∷ 10 ∷ 9 ∷ []) ≡ 5 ∷ 0 ∷ 0 ∷ []
worths = refl

-- one with the same floor leaves
joined : map (λ floor. with_candidate (start 9 floor) three) (18 ∷ 17 ∷ 11 ∷ 10 ∷ [])
    ≡ (start 3 10 ∷ start 5 12 ∷ start 8 17 ∷ start 9 18 ∷ []) ∷ (start 3 10 ∷ start 5 12 ∷ start 9 17 ∷ []) ∷ (start 3 10 ∷ start 9 11 ∷ [])
    ∷ (start 9 10 ∷ []) ∷ []
joined = refl

joined-ends : map (λ floor. ends_no_lower floor three) (18 ∷ 17 ∷ []) ≡ false ∷ true ∷ []
joined-ends = refl

-- the requests of an object of 2 units in a trace, past a warm-up of 1 request, of which the third only fills
abbrev object : ℕ → Object
object id = record { volume = 0; id = id; size = 2 }

abbrev trace : List Object
trace = object 0 ∷ object 1 ∷ object 0 ∷ object 1 ∷ object 0 ∷ []

abbrev times : List ℕ
times = 4 ∷ 3 ∷ 6 ∷ 6 ∷ 9 ∷ []

abbrev prices : List ℕ
prices = 1 ∷ 0 ∷ 2 ∷ 1 ∷ 0 ∷ []

since : map (λ n. prices_since trace prices n (object 1)) (0 ∷ 1 ∷ 2 ∷ 3 ∷ 4 ∷ 5 ∷ []) ≡ 0 ∷ 1 ∷ 0 ∷ 2 ∷ 1 ∷ 1 ∷ []
since = refl

requests : requests_of (terms_from Hits 9 1 (false ∷ false ∷ true ∷ [])) 1 10 trace times prices 5 (object 0)
    ≡ asked 4 false 0 0 ∷ asked 6 true 0 2 ∷ asked 9 false 10 6 ∷ []
requests = refl

requests-top : map (λ n. (walk (terms_from Hits 9 1 (false ∷ false ∷ true ∷ [])) 1 10 trace times prices 3 n (object 0)).top) (3 ∷ 5 ∷ [])
    ≡ 0 ∷ 4 ∷ []
requests-top = refl
