use Rattle.std.proofs.Common.{◌≡◌, map, take}
use Rattle.policy_sweep.specs.declared.running.Running.{Running}
use Rattle.policy_sweep.proofs.replays.replays_of.Given as goal

-- those of the policies so far
abbrev pub invariant-loop-one : goal.invariant-loop-one
invariant-loop-one l = l.replays.items ≡ map (λ (r : Running). r.so_far) (take l.one-index l.running)
