-- The definitions at small traces, computed: the prices of all steps but the last are equal.
use Rattle.std.proofs.Common.{◌≡◌, ℕ, ◌-◌, ◌++◌, Bool, true, false, List, [], ◌∷◌, length, replicate, refl}
use Rattle.cache_model.specs.declared.objects.Object.{Object}
use Rattle.cache_model.specs.declared.objects.Objective.TheVariants.{Object as Hits, Bytes}
use Rattle.cache_model.specs.Claim.{Terms, contents_of, score, terms_from}
use Rattle.cache_model.specs.Written.{written_bytes}
use Rattle.budget_laws.specs.Budgets.{asked_bytes, bound_within, debts}

abbrev object : ℕ → ℕ → Object
object id size = record { volume = 0; id = id; size = size }

abbrev prices : ℕ → List Object → List ℕ
prices price trace = replicate (length trace - 1) price ++ 0 ∷ []

-- the bound at a price of steps and one of writing, over a denominator, in units of a byte
abbrev upper : ℕ → ℕ → ℕ → Terms → List Object → ℕ → ℕ
upper price write_price denominator terms trace budget =
    bound_within terms 1 denominator trace (prices price trace) write_price budget

-- the price of steps is 1, and that of writing 2, over 4
abbrev at_two : Terms → List Object → ℕ → ℕ
at_two = upper 1 2 4

abbrev debts_at_two : Terms → List Object → List ℕ
debts_at_two terms trace = debts terms 1 4 trace (prices 1 trace) 2 (length trace)

-- A B A B C A B C of 2, 1 and 3 bytes, at capacity 3
abbrev three : List Object
three = object 0 2 ∷ object 1 1 ∷ object 0 2 ∷ object 1 1 ∷ object 2 3 ∷ object 0 2 ∷ object 1 1 ∷ object 2 3 ∷ []

abbrev hits : Terms
hits = terms_from Hits 3 0 []

three_debts : debts_at_two hits three ≡ 4 ∷ 2 ∷ 4 ∷ 0 ∷ 6 ∷ 4 ∷ 0 ∷ 6 ∷ []
three_debts = refl

three_hits_0 : at_two hits three 0 ≡ 22
three_hits_0 = refl

three_hits_1 : at_two hits three 1 ≡ 24
three_hits_1 = refl

three_hits_2 : at_two hits three 2 ≡ 26
three_hits_2 = refl

three_hits_3 : at_two hits three 3 ≡ 28
three_hits_3 = refl

three_hits_4 : at_two hits three 4 ≡ 30
three_hits_4 = refl

three_hits_6 : at_two hits three 6 ≡ 34
three_hits_6 = refl

-- at the best such prices it is 0, 2, 3, 4, 13/3 and 14/3 hits, where the greatest scores are 0, 2, 2, 4, 4 and 4
three_best_0 : upper 0 3 1 hits three 0 ≡ 0
three_best_0 = refl

three_best_1 : upper 0 4 3 hits three 1 ≡ 6
three_best_1 = refl

three_best_2 : upper 0 1 1 hits three 2 ≡ 3
three_best_2 = refl

three_best_3 : upper 0 5 6 hits three 3 ≡ 24
three_best_3 = refl

three_best_4 : upper 0 1 3 hits three 4 ≡ 13
three_best_4 = refl

three_best_6 : upper 1 0 9 hits three 6 ≡ 42
three_best_6 = refl

-- A and B are held from their first requests on: 4 hits, and 3 bytes are written
abbrev both : List Bool
both = true ∷ true ∷ true ∷ true ∷ []

both_score : score hits three (contents_of three both) ≡ 4
both_score = refl

both_written : written_bytes 0 [] three (contents_of three both) ≡ 3
both_written = refl

all_asked : asked_bytes 0 three ≡ 15
all_asked = refl

-- the same with a warm-up of three requests
abbrev warm : Terms
warm = terms_from Hits 3 3 []

warm_debts : debts_at_two warm three ≡ 0 ∷ 0 ∷ 0 ∷ 0 ∷ 6 ∷ 2 ∷ 0 ∷ 6 ∷ []
warm_debts = refl

warm_0 : at_two warm three 0 ≡ 24
warm_0 = refl

warm_1 : at_two warm three 1 ≡ 26
warm_1 = refl

warm_3 : at_two warm three 3 ≡ 30
warm_3 = refl

warm_best_0 : upper 0 1 1 warm three 0 ≡ 3
warm_best_0 = refl

warm_best_1 : upper 0 1 3 warm three 1 ≡ 10
warm_best_1 = refl

warm_best_3 : upper 0 0 1 warm three 3 ≡ 4
warm_best_3 = refl

all_asked_past_three : asked_bytes 3 three ≡ 10
all_asked_past_three = refl

-- bytes in place of hits
abbrev bytes : Terms
bytes = terms_from Bytes 3 0 []

bytes_debts : debts_at_two bytes three ≡ 4 ∷ 2 ∷ 0 ∷ 0 ∷ 6 ∷ 0 ∷ 0 ∷ 3 ∷ []
bytes_debts = refl

bytes_2 : at_two bytes three 2 ≡ 28
bytes_2 = refl

bytes_6 : at_two bytes three 6 ≡ 36
bytes_6 = refl

bytes_best_2 : upper 0 2 1 bytes three 2 ≡ 4
bytes_best_2 = refl

bytes_best_6 : upper 1 0 3 bytes three 6 ≡ 24
bytes_best_6 = refl

-- in units of 2 bytes, of which a budget of 3 has one, and B has none
three_in_pairs : bound_within hits 2 4 three (prices 1 three) 2 3 ≡ 18
three_in_pairs = refl

-- A B A B A B A B of a byte each, at capacity 1
abbrev turns : List Object
turns = object 0 1 ∷ object 1 1 ∷ object 0 1 ∷ object 1 1 ∷ object 0 1 ∷ object 1 1 ∷ object 0 1 ∷ object 1 1 ∷ []

abbrev one : Terms
one = terms_from Hits 1 0 []

turns_debts : debts_at_two one turns ≡ 2 ∷ 2 ∷ 0 ∷ 0 ∷ 0 ∷ 0 ∷ 0 ∷ 0 ∷ []
turns_debts = refl

turns_1 : at_two one turns 1 ≡ 17
turns_1 = refl

turns_2 : at_two one turns 2 ≡ 19
turns_2 = refl

turns_best_1 : upper 0 3 1 one turns 1 ≡ 3
turns_best_1 = refl

turns_best_2 : upper 1 0 2 one turns 2 ≡ 7
turns_best_2 = refl

-- A A B A A B A, where A has 2 bytes, and its first and third requests only fill
abbrev marked : List Object
marked = object 0 2 ∷ object 0 2 ∷ object 1 1 ∷ object 0 2 ∷ object 0 2 ∷ object 1 1 ∷ object 0 2 ∷ []

abbrev filled : Terms
filled = terms_from Hits 3 0 (true ∷ false ∷ false ∷ true ∷ [])

marked_debts : debts_at_two filled marked ≡ 4 ∷ 2 ∷ 2 ∷ 4 ∷ 2 ∷ 1 ∷ 2 ∷ []
marked_debts = refl

marked_1 : at_two filled marked 1 ≡ 20
marked_1 = refl

marked_3 : at_two filled marked 3 ≡ 24
marked_3 = refl

marked_4 : at_two filled marked 4 ≡ 26
marked_4 = refl

marked_5 : at_two filled marked 5 ≡ 28
marked_5 = refl

marked_best_1 : upper 0 1 1 filled marked 1 ≡ 1
marked_best_1 = refl

marked_best_3 : upper 0 4 5 filled marked 3 ≡ 15
marked_best_3 = refl

marked_best_4 : upper 0 1 2 filled marked 4 ≡ 7
marked_best_4 = refl

marked_best_5 : upper 0 0 1 filled marked 5 ≡ 4
marked_best_5 = refl
