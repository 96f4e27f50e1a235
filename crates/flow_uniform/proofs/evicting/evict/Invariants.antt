use Rattle.std.proofs.Common.{◌≡◌, ◌+◌, ◌<◌, ◌≤◌, length, get_or}
use Rattle.flow_model.specs.Instances.{load_at}
use Rattle.flow_uniform.specs.Cuts.{AreCuts}
use Rattle.flow_uniform.specs.Holdings.{IsHeld}
use Rattle.flow_uniform.proofs.evicting.evict.Given as goal

abbrev pub invariant-loop-load : goal.invariant-loop-load
invariant-loop-load l =
    record {
      held : IsHeld l.instance (record { flows = l.flows; leaving = l.leaving; ranks = l.heap }) (length l.instance.arcs);
      cuts : AreCuts l.instance l.flows l.cuts (l.step + 1) l.step;
      load : l.load ≡ load_at l.instance.arcs l.flows l.step;
      full : 0 < get_or l.cuts l.step 0 → l.instance.units ≤ l.load;
    }

abbrev pub decreases-loop-load : goal.decreases-loop-load
decreases-loop-load l = l.load
