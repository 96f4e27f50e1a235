-- Which requests of a trace a policy answers as hits from which objects leave.
use Rattle.std.specs.Prelude.{◌≡◌, ℕ, ◌<◌, Bool, not, ◌&&◌, List, length, IfSome}
use Rattle.std.specs.declared.option.Option.{Option}
use Rattle.cache_model.specs.declared.objects.Object.{Object}
use Rattle.cache_model.specs.Claim.{IsAllowed, before_request, holds, request_at}
use Rattle.judge_laws.specs.Flags.{is_flagged}
use Rattle.policy_model.specs.States.{State}
use Rattle.replay_fresh.specs.Fresh.{is_stale}
use Rattle.replay_fresh.specs.FreshRuns.{NoneStays, fresh_contents}

-- a request is flagged exactly if the contents hold its object before it and it is not stale
abbrev pub HitsFreshly : List Object → List Bool → List (List Object) → List Bool → Type 0
HitsFreshly trace stale contents flags =
    (t : ℕ) → t < length trace → (holds (before_request contents t) (request_at trace t) && not (is_stale stale t)) ≡ is_flagged flags t

-- a flag for each request: some allowed contents that keep nothing that leaves hit exactly where they are; they are those of the rule, if one is known
pub record AreFreshHits (known_state : Option State) (capacity : ℕ) (trace : List Object) (stale : List Bool) (replace : Bool) (flags : List Bool) : Type 0 where
  pub each : length flags ≡ length trace
  pub contents : List (List Object)
  pub allowed : IsAllowed capacity trace contents
  pub hits : HitsFreshly trace stale contents flags
  pub none_stays : NoneStays stale replace trace (length trace) contents
  pub of_rule : IfSome known_state (λ s. contents ≡ fresh_contents s.name trace s.capacity stale replace)
