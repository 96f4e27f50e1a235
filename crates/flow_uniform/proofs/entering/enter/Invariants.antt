use Rattle.std.proofs.Common.{◌≡◌, ◌+◌, ◌-◌, ◌<◌, ◌≤◌, length}
use Rattle.flow_model.specs.Instances.{load_at}
use Rattle.flow_parts.specs.OuterEdges.{tail_of}
use Rattle.flow_uniform.specs.Holdings.{IsHeld}
use Rattle.flow_uniform.proofs.Holding.{EntersFrom}
use Rattle.flow_uniform.proofs.entering.enter.Given as goal

abbrev pub invariant-loop-left : goal.invariant-loop-left
invariant-loop-left l =
    record {
      held : IsHeld l.instance (record { flows = l.flows; leaving = l.leaving; ranks = l.heap }) (length l.instance.arcs);
      within : l.left ≤ length l.instance.arcs;
      here : 0 < l.left → tail_of l.instance.arcs (l.left - 1) ≡ l.step;
      enter : EntersFrom l.instance.arcs l.step l.left l.initial.flows l.flows;
      load : load_at l.instance.arcs l.initial.flows l.step + l.more ≡ load_at l.instance.arcs l.flows l.step;
    }

abbrev pub decreases-loop-left : goal.decreases-loop-left
decreases-loop-left l = l.left
