-- Small traces with stale requests, computed.
use Rattle.std.proofs.Common.{◌≡◌, ℕ, Bool, true, false, List, [], ◌∷◌, map, refl, None, Some}
use Rattle.cache_model.specs.declared.objects.Object.{Object}
use Rattle.cache_model.specs.Objects.{numbers_of}
use Rattle.policy_model.specs.declared.names.PolicyName.TheVariants.{Lru, Fifo, Belady}
use Rattle.policy_model.specs.Runs.{policy_run}
use Rattle.replay_fresh.specs.Fresh.{fresh_asks, leaving}
use Rattle.replay_fresh.specs.FreshRuns.{fresh_run, fresh_contents}

abbrev object : ℕ → ℕ → Object
object id size = record { volume = 0; id = id; size = size }

-- what leaves before each request
abbrev leavings : List Bool → Bool → List Object → List (List ℕ)
leavings stale replace trace = map (leaving stale replace trace) (numbers_of trace)

-- ---- one id of sizes 2, 3 and 2, whose third request is stale
abbrev resized : List Object
resized = object 1 2 ∷ object 1 3 ∷ object 1 2 ∷ []

abbrev third : List Bool
third = false ∷ false ∷ true ∷ []

-- each version leaves once another is asked for, and the stale one before what replaced it
resized_leaving : leavings third true resized ≡ [] ∷ (0 ∷ []) ∷ (0 ∷ 1 ∷ []) ∷ []
resized_leaving = refl

resized_contents : fresh_contents Lru resized 10 third true ≡ [] ∷ (object 1 2 ∷ []) ∷ (object 1 3 ∷ []) ∷ (object 1 2 ∷ []) ∷ []
resized_contents = refl

-- the stale object alone
expired_leaving : leavings third false resized ≡ [] ∷ [] ∷ (0 ∷ []) ∷ []
expired_leaving = refl

expired_contents : fresh_contents Lru resized 10 third false ≡ [] ∷ (object 1 2 ∷ []) ∷ (object 1 2 ∷ object 1 3 ∷ []) ∷ (object 1 3 ∷ object 1 2 ∷ []) ∷ []
expired_contents = refl

-- nothing leaves if nothing is stale or replaced
kept_leaving : leavings [] false resized ≡ [] ∷ [] ∷ [] ∷ []
kept_leaving = refl

-- a version above the capacity replaces one that is held, and is not held itself
large_contents : fresh_contents Lru (object 1 2 ∷ object 1 9 ∷ object 1 2 ∷ []) 5 third true ≡ [] ∷ (object 1 2 ∷ []) ∷ [] ∷ (object 1 2 ∷ []) ∷ []
large_contents = refl

-- ---- the last version tells: the second request of size 2 finds that size, and the first version is long gone
same_size_leaving : leavings [] true (object 1 3 ∷ object 1 2 ∷ object 1 2 ∷ []) ≡ [] ∷ (0 ∷ []) ∷ [] ∷ []
same_size_leaving = refl

-- an object that is stale and was the last of its id leaves as the one, and not as the other
stale_again_leaving : leavings third true (object 1 2 ∷ object 1 2 ∷ object 1 2 ∷ []) ≡ [] ∷ [] ∷ (0 ∷ []) ∷ []
stale_again_leaving = refl

-- another id, or the same in another volume, replaces nothing
other_ids_leaving : leavings [] true (object 1 2 ∷ object 2 3 ∷ record { volume = 1; id = 1; size = 4 } ∷ object 1 5 ∷ []) ≡ [] ∷ [] ∷ [] ∷ (0 ∷ []) ∷ []
other_ids_leaving = refl

-- ---- A B A C A, where the second request of A is stale
abbrev again : List Object
again = object 1 1 ∷ object 2 1 ∷ object 1 1 ∷ object 3 1 ∷ object 1 1 ∷ []

-- under FIFO an object that comes back goes to the back, so that C removes B, and the last request hits
again_contents : fresh_contents Fifo again 2 third false
    ≡ [] ∷ (object 1 1 ∷ []) ∷ (object 1 1 ∷ object 2 1 ∷ []) ∷ (object 2 1 ∷ object 1 1 ∷ []) ∷ (object 1 1 ∷ object 3 1 ∷ []) ∷ (object 1 1 ∷ object 3 1 ∷ []) ∷ []
again_contents = refl

again_hits : map (λ (r : List Bool). (fresh_run Fifo again 2 0 third r false).hits) (third ∷ [] ∷ []) ≡ 1 ∷ 0 ∷ []
again_hits = refl

again_unmarked : (policy_run Fifo again 2 0 third).hits ≡ 0
again_unmarked = refl

-- ---- A B A B, where the second request of A is stale
abbrev turns : List Object
turns = object 1 1 ∷ object 2 1 ∷ object 1 1 ∷ object 2 1 ∷ []

turns_nexts : map (λ a. a.next) (fresh_asks third turns) ≡ None ∷ Some 3 ∷ None ∷ None ∷ []
turns_nexts = refl

-- so Belady's rule keeps B, and hits it
turns_hits : (fresh_run Belady turns 1 0 third third false).hits ≡ 1
turns_hits = refl

turns_bytes : (fresh_run Belady turns 1 0 third third false).bytes ≡ 1
turns_bytes = refl

-- where A's next request counts as one, it stays in place of B, and nothing hits
turns_unmarked : (policy_run Belady turns 1 0 third).hits ≡ 0
turns_unmarked = refl

-- a hit in the warm-up counts for nothing
turns_late : (fresh_run Belady turns 1 4 third third false).hits ≡ 0
turns_late = refl
