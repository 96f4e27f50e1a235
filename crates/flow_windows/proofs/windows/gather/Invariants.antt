use Rattle.std.proofs.Common.{◌≡◌, ℕ, ◌+◌, ◌-◌, ◌≤◌, length, vec_capacity}
use Rattle.flow_windows.proofs.Merging.{IsGatheredIn}
use Rattle.flow_windows.proofs.windows.gather.Given as goal

-- the arcs before some number are done
abbrev pub invariant-loop-at : goal.invariant-loop-at
invariant-loop-at l =
    (m : ℕ)
    × IsGatheredIn l.window.width l.window.number l.arcs l.before l.starts.next l.at l.starting m l.met.items
    × (length l.arcs ≤ vec_capacity l.met)
    × (vec_capacity l.met ≡ vec_capacity l.fn.met)

abbrev pub decreases-loop-at : goal.decreases-loop-at
decreases-loop-at l = (length l.before - l.at) + (length l.arcs - l.starting)
