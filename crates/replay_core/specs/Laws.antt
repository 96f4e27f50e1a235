-- The laws of a policy, and what a replay answers.
use Rattle.std.specs.Prelude.{◌≡◌, ◌≢◌, ℕ, ◌+◌, ◌≤◌, Bool, if◌then◌else◌, List, [], AllPairs, IfSome, Some}
use Rattle.std.specs.declared.option.Option.{Option}
use Rattle.cache_model.specs.declared.objects.Object.{Object}
use Rattle.policy_model.specs.States.{Member, State, members_of, members_size, start_of}
use Rattle.policy_model.specs.Rules.{policy_step}
use Rattle.policy_model.specs.Leaving.{let_go}
use Rattle.policy_model.specs.Runs.{policy_run}

-- the members fit into the capacity, and no object is there twice
pub record IsSound (capacity : ℕ) (members : List Member) : Type 0 where
  pub within_capacity : members_size members ≤ capacity
  pub without_repeats : AllPairs (λ m n. m.object ≢ n.object) members

-- a state that is known has these members and this capacity
abbrev pub StateFits : Option State → List Member → ℕ → Type 0
StateFits known_state members capacity = IfSome known_state (λ s. (members_of s.entries ≡ members) × (s.capacity ≡ capacity))

-- a state that was known before is known after, one step of its rule later
abbrev pub StepsBy : Option State → Option State → ℕ → ℕ → Option ℕ → Type 0
StepsBy before after object size next = IfSome before (λ s. after ≡ Some (policy_step s object size next).after)

-- a state that was known before is known after, without the object of this number
abbrev pub LetsGo : Option State → Option State → ℕ → Type 0
LetsGo before after object = IfSome before (λ s. after ≡ Some (let_go s object))

-- how many requests a policy has answered, and how many of them as hits
pub record Tally : Type 0 where
  pub requests : ℕ
  pub hits : ℕ

-- if a tally is kept, it counts the answer
abbrev pub CountsAnswer : Option Tally → Option Tally → Bool → Type 0
CountsAnswer before after hit = IfSome before (λ n. after ≡ Some (record { requests = n.requests + 1; hits = n.hits + (if hit then 1 else 0) }))

-- as many requests were answered as were asked; the hits are no more than the answers that were hits, and just those without a warm-up and marks
pub record IsTallied (before : Tally) (after : Option Tally) (asked warmup : ℕ) (fills : List Bool) (hits : ℕ) : Type 0 where
  pub tally : Tally
  pub kept : after ≡ Some tally
  pub each_answered : tally.requests ≡ before.requests + asked
  pub no_more : before.hits + hits ≤ tally.hits
  pub all_counted : warmup ≡ 0 → fills ≡ [] → before.hits + hits ≡ tally.hits

-- a state that is known has had no request
abbrev pub IsFresh : Option State → Type 0
IsFresh known_state = IfSome known_state (λ s. s ≡ start_of s.name s.capacity)

-- where a state is known, the hits and bytes are those of its rule's run
abbrev pub IsRunOf : Option State → List Object → ℕ → List Bool → ℕ → ℕ → Type 0
IsRunOf known_state trace warmup fills hits bytes =
    IfSome known_state (λ s. (hits ≡ (policy_run s.name trace s.capacity warmup fills).hits) × (bytes ≡ (policy_run s.name trace s.capacity warmup fills).bytes))

-- a state that is known is then that of its rule's run
abbrev pub IsStateAfter : Option State → Option State → List Object → ℕ → List Bool → Type 0
IsStateAfter before after trace warmup fills = IfSome before (λ s. after ≡ Some (policy_run s.name trace s.capacity warmup fills).state)
