-- The run of a rule from which objects leave before requests.
use Rattle.std.specs.Prelude.{◌≡◌, ℕ, ◌+◌, ◌<◌, Bool, IsTrue, List, Some, IfSome, Contains, fold, length, map, take}
use Rattle.std.specs.declared.option.Option.{Option}
use Rattle.std.specs.List.{range_with_len}
use Rattle.cache_model.specs.declared.objects.Object.{Object}
use Rattle.cache_model.specs.Claim.{before_request, counts_past, only_fills, request_at}
use Rattle.cache_model.specs.Written.{written_bytes}
use Rattle.policy_model.specs.declared.names.PolicyName.{PolicyName}
use Rattle.policy_model.specs.States.{Member, State, has_member, members_of, start_of}
use Rattle.policy_model.specs.Leaving.{let_go, without_member}
use Rattle.policy_model.specs.Asks.{Ask, number_of}
use Rattle.policy_model.specs.Runs.{AreScores, Run, objects_held, rule_step, run_from, run_step}
use Rattle.replay_fresh.specs.Fresh.{fresh_asks, is_stale, leaving}

-- a state that has let go of the objects of these numbers, one after the other
abbrev pub let_go_all : State → List ℕ → State
let_go_all s objects = fold let_go s objects

-- one more request, before which those leave that `leaves` names
abbrev pub fresh_step : (ℕ → Bool) → (ℕ → List ℕ) → Run → Ask → Run
fresh_step counted leaves run a = run_step counted (record run { state = let_go_all run.state (leaves a.request) }) a

-- the run of a rule over the whole trace, from no entries
abbrev pub fresh_run : PolicyName → List Object → ℕ → ℕ → List Bool → List Bool → Bool → Run
fresh_run name trace capacity warmup fills stale replace =
    fold (fresh_step (counts_past warmup fills) (leaving stale replace trace)) (run_from (start_of name capacity)) (fresh_asks stale trace)

-- the state of a rule after one more request, before which those leave that `leaves` names
abbrev pub fresh_rule_step : (ℕ → List ℕ) → State → Ask → State
fresh_rule_step leaves s a = rule_step (let_go_all s (leaves a.request)) a

-- the objects that a rule holds after t requests of the trace
abbrev pub fresh_held_after : State → List Object → List Bool → Bool → ℕ → List Object
fresh_held_after first trace stale replace t =
    objects_held trace (members_of (fold (fresh_rule_step (leaving stale replace trace)) first (take t (fresh_asks stale trace))).entries)

-- the contents of a rule, from no entries: before each request of the trace, and before anything leaves for it, and after the last
abbrev pub fresh_contents : PolicyName → List Object → ℕ → List Bool → Bool → List (List Object)
fresh_contents name trace capacity stale replace = map (fresh_held_after (start_of name capacity) trace stale replace) (range_with_len 0 (length trace + 1))

-- ---- a policy from which objects leave
-- each request of the trace that is stale only fills
abbrev pub OnlyFill : List Bool → List Bool → List Object → Type 0
OnlyFill stale fills trace = (t : ℕ) → t < length trace → IsTrue (is_stale stale t) → IsTrue (only_fills fills t)

-- the members without those of the objects of these numbers
abbrev pub members_without : List Member → List ℕ → List Member
members_without members objects = fold (λ ms object. without_member object ms) members objects

-- the object of this number is held after exactly if it was before
abbrev pub SameHeld : ℕ → List Member → List Member → Type 0
SameHeld object before after = has_member after object ≡ has_member before object

-- a state that was known before is known after, without the objects of these numbers
abbrev pub LetsGoAll : Option State → Option State → List ℕ → Type 0
LetsGoAll before after objects = IfSome before (λ s. after ≡ Some (let_go_all s objects))

-- if a state is known, the hits and bytes are those of its rule's run
abbrev pub IsFreshRunOf : Option State → List Object → ℕ → List Bool → List Bool → Bool → ℕ → ℕ → Type 0
IsFreshRunOf known_state trace warmup fills stale replace hits bytes =
    IfSome known_state (λ s. let run = fresh_run s.name trace s.capacity warmup fills stale replace in (hits ≡ run.hits) × (bytes ≡ run.bytes))

-- a state that is known is then that of its rule's run
abbrev pub IsFreshStateAfter : Option State → Option State → List Object → ℕ → List Bool → List Bool → Bool → Type 0
IsFreshStateAfter before after trace warmup fills stale replace = IfSome before (λ s. after ≡ Some (fresh_run s.name trace s.capacity warmup fills stale replace).state)

-- what leaves before one of the first t requests is not there after it, unless it is what is asked for
abbrev pub NoneStays : List Bool → Bool → List Object → ℕ → List (List Object) → Type 0
NoneStays stale replace trace t contents =
    (u : ℕ) → u < t → (x : Object) → Contains (before_request contents (u + 1)) x → Contains (leaving stale replace trace u) (number_of trace x) → x ≡ request_at trace u

-- some allowed contents of the trace have these hits and bytes, write these bytes and keep nothing that leaves; they are those of the rule, if one is known
pub record IsFreshlyPlayed (known_state : Option State) (capacity warmup : ℕ) (fills stale : List Bool) (replace : Bool) (trace : List Object) (hits bytes written : ℕ) : Type 0 where
  pub scores : AreScores capacity warmup fills trace hits bytes
  pub written_are : written ≡ written_bytes warmup fills trace scores.contents
  pub none_stays : NoneStays stale replace trace (length trace) scores.contents
  pub of_rule : IfSome known_state (λ s. scores.contents ≡ fresh_contents s.name trace s.capacity stale replace)
