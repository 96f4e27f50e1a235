-- The laws of the rules, each the contract of a function.
use Rattle.std.specs.Prelude.{◌≡◌, ℕ, ◌≤◌, Bool, List, [], Contains}
use Rattle.cache_model.specs.declared.objects.Object.{Object}
use Rattle.cache_model.specs.declared.objects.Objective.TheVariants.{Object as Hits, Bytes}
use Rattle.cache_model.specs.Claim.{IsAllowed, score, terms_from}
use Rattle.policy_model.specs.declared.names.PolicyName.TheVariants.{Belady}
use Rattle.policy_model.specs.declared.names.PolicyName.{PolicyName}
use Rattle.policy_model.specs.Runs.{policy_run, AreScores}

-- all objects of the trace that are within the capacity have one size
abbrev pub HaveOneSize : ℕ → List Object → Type 0
HaveOneSize capacity trace = (x y : Object) → Contains trace x → Contains trace y → x.size ≤ capacity → y.size ≤ capacity → x.size ≡ y.size

-- the run scores at least what the contents do, for both objectives, if every request counts
pub record ScoresAtLeast (capacity : ℕ) (trace : List Object) (contents : List (List Object)) : Type 0 where
  pub hits : score (terms_from Hits capacity 0 []) trace contents ≤ (policy_run Belady trace capacity 0 []).hits
  pub bytes : score (terms_from Bytes capacity 0 []) trace contents ≤ (policy_run Belady trace capacity 0 []).bytes

-- no allowed contents score more than Belady's run, if all objects that fit have one size
abbrev pub BeladyIsBest : Type 0
BeladyIsBest = (capacity : ℕ) (trace : List Object) (contents : List (List Object)) → HaveOneSize capacity trace → IsAllowed capacity trace contents → ScoresAtLeast capacity trace contents

-- the hits and bytes of each rule's run are the scores of allowed contents, whatever the warm-up and the requests that count
abbrev pub RunsAreAllowed : Type 0
RunsAreAllowed =
    (name : PolicyName) (capacity warmup : ℕ) (fills : List Bool) (trace : List Object)
    → AreScores capacity warmup fills trace (policy_run name trace capacity warmup fills).hits (policy_run name trace capacity warmup fills).bytes
