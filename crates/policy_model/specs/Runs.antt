-- A run of a rule over a trace.
use Rattle.std.specs.Prelude.{◌≡◌, ℕ, ◌+◌, Bool, ◌&&◌, if◌then◌else◌, List, IfSome, fold, length, map, take}
use Rattle.std.specs.List.{range_with_len}
use Rattle.std.specs.declared.option.Option.{Option}
use Rattle.cache_model.specs.declared.objects.Object.{Object}
use Rattle.cache_model.specs.declared.objects.Objective.TheVariants.{Object as Hits, Bytes}
use Rattle.cache_model.specs.Claim.{IsAllowed, counts_past, score, terms_from}
use Rattle.policy_model.specs.declared.names.PolicyName.{PolicyName}
use Rattle.cache_model.specs.Written.{written_bytes}
use Rattle.policy_model.specs.States.{Member, State, members_of, start_of}
use Rattle.policy_model.specs.Rules.{policy_step}
use Rattle.policy_model.specs.Asks.{Ask, asks_of, object_numbered}

-- a run so far: the state, and the hits and their bytes among the requests that count
pub record Run : Type 0 where
  pub state : State
  pub hits : ℕ
  pub bytes : ℕ

-- one more request, where `counted` says which requests count
abbrev pub run_step : (ℕ → Bool) → Run → Ask → Run
run_step counted run a =
    let answer = policy_step run.state a.object a.size a.next in
    let counts = counted a.request && answer.hit in
    record {
      state = answer.after;
      hits = run.hits + (if counts then 1 else 0);
      bytes = run.bytes + (if counts then a.size else 0);
    }

-- a run that has had no request
abbrev pub run_from : State → Run
run_from state = record { state = state; hits = 0; bytes = 0 }

-- the run of a rule over the whole trace, from no entries
abbrev pub policy_run : PolicyName → List Object → ℕ → ℕ → List Bool → Run
policy_run name trace capacity warmup fills = fold (run_step (counts_past warmup fills)) (run_from (start_of name capacity)) (asks_of trace)

-- the hits and bytes are the scores of the same allowed contents of the trace
pub record AreScores (capacity warmup : ℕ) (fills : List Bool) (trace : List Object) (hits bytes : ℕ) : Type 0 where
  pub contents : List (List Object)
  pub allowed : IsAllowed capacity trace contents
  pub hits_are : hits ≡ score (terms_from Hits capacity warmup fills) trace contents
  pub bytes_are : bytes ≡ score (terms_from Bytes capacity warmup fills) trace contents

-- the objects that the members stand for
abbrev pub objects_held : List Object → List Member → List Object
objects_held trace members = map (λ m. object_numbered trace m.object) members

-- the state of a rule after one more request
abbrev pub rule_step : State → Ask → State
rule_step state a = (policy_step state a.object a.size a.next).after

-- the objects that a rule holds after t requests of the trace
abbrev pub held_after : State → List Object → ℕ → List Object
held_after first trace t = objects_held trace (members_of (fold rule_step first (take t (asks_of trace))).entries)

-- the contents of a rule, from no entries: before each request of the trace, and after the last
abbrev pub rule_contents : PolicyName → List Object → ℕ → List (List Object)
rule_contents name trace capacity = map (held_after (start_of name capacity) trace) (range_with_len 0 (length trace + 1))

-- some allowed contents of the trace have these hits and bytes, and write these bytes; they are those of the rule, if one is known
pub record IsPlayed (known_state : Option State) (capacity warmup : ℕ) (fills : List Bool) (trace : List Object) (hits bytes written : ℕ) : Type 0 where
  pub scores : AreScores capacity warmup fills trace hits bytes
  pub written_are : written ≡ written_bytes warmup fills trace scores.contents
  pub of_rule : IfSome known_state (λ s. scores.contents ≡ rule_contents s.name trace s.capacity)
