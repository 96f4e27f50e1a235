use Rattle.std.proofs.Common.{◌≢◌, ℕ, ◌+◌}
use Rattle.policy_model.specs.declared.names.PolicyName.{PolicyName}
use Rattle.policy_model.specs.declared.names.PolicyName.TheVariants.{Belady}
use Rattle.policy_sweep.specs.Running.{AreAsked, IsRunning, Told}
use Rattle.policy_sweep.proofs.running.Running.go_through.Given as goal

-- the policy has gone through the requests so far
abbrev pub invariant-loop-asked : goal.invariant-loop-asked
invariant-loop-asked l =
    (told : Told) (name : PolicyName) (capacity objects t : ℕ) → name ≢ Belady → AreAsked told objects t l.fn.batch
    → IsRunning told name capacity objects t l.initial.self → IsRunning told name capacity objects (t + l.asked-index) l.self
