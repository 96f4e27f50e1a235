-- What is proved of runs from which objects leave; a law is the contract of a function.
use Rattle.std.specs.Prelude.{◌≡◌, ℕ, Bool, false, List, []}
use Rattle.cache_model.specs.declared.objects.Object.{Object}
use Rattle.policy_model.specs.declared.names.PolicyName.{PolicyName}
use Rattle.policy_model.specs.Runs.{policy_run, rule_contents}
use Rattle.replay_fresh.specs.FreshRuns.{fresh_contents, fresh_run}

-- if no request is stale and objects are not replaced, the run is that of the rule
abbrev pub IsRunOfRule : Type 0
IsRunOfRule =
    (name : PolicyName) (trace : List Object) (capacity warmup : ℕ) (fills : List Bool)
    → fresh_run name trace capacity warmup fills [] false ≡ policy_run name trace capacity warmup fills

-- and so are the contents
abbrev pub AreContentsOfRule : Type 0
AreContentsOfRule = (name : PolicyName) (trace : List Object) (capacity : ℕ) → fresh_contents name trace capacity [] false ≡ rule_contents name trace capacity
