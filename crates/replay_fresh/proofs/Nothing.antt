-- If no request is stale and objects are not replaced.
use Rattle.std.proofs.Common.{◌≡◌, ℕ, ◌+◌, refl, ap, List, [], None, Some, fold, length, map, take}
use Rattle.std.specs.List.{range_with_len}
use Rattle.std.specs.declared.option.Option.{Option}
use Rattle.cache_model.specs.declared.objects.Object.{Object}
use Rattle.cache_model.specs.Claim.{counts_past}
use Rattle.cache_model.specs.Objects.{numbers_of}
use Rattle.policy_model.specs.States.{members_of, start_of}
use Rattle.policy_model.specs.Asks.{ask_at, asks_of, next_request}
use Rattle.policy_model.specs.Runs.{objects_held, rule_step, run_from, run_step}
use Rattle.replay_fresh.specs.Fresh.{fresh_ask, fresh_asks, unless_stale}
use Rattle.replay_fresh.specs.Laws.{AreContentsOfRule, IsRunOfRule}

-- each next request stays
unless_stale-none : (next : Option ℕ) → unless_stale [] next ≡ next
unless_stale-none None = refl
unless_stale-none (Some t) = refl

-- what a request asks
fresh_ask-none : (trace : List Object) (t : ℕ) → fresh_ask [] trace t ≡ ask_at trace t
fresh_ask-none trace t = ap (λ (n : Option ℕ). record (ask_at trace t) { next = n }) (unless_stale-none (next_request trace t))

fresh_asks-none : (trace : List Object) → fresh_asks [] trace ≡ asks_of trace
fresh_asks-none trace = λ i. map (λ t. fresh_ask-none trace t i) (numbers_of trace)

-- so the run is that of the rule
pub run-none : IsRunOfRule
run-none name trace capacity warmup fills = ap (fold (run_step (counts_past warmup fills)) (run_from (start_of name capacity))) (fresh_asks-none trace)

-- and so are the contents
pub contents-none : AreContentsOfRule
contents-none name trace capacity =
    ap (λ asks. map (λ t. objects_held trace (members_of (fold rule_step (start_of name capacity) (take t asks)).entries)) (range_with_len 0 (length trace + 1))) (fresh_asks-none trace)
