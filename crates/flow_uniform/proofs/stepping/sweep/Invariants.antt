use Rattle.std.proofs.Common.{◌≡◌, ◌+◌, length}
use Rattle.flow_model.specs.Instances.{load_at}
use Rattle.flow_uniform.specs.Cuts.{AreCuts, flow_where, ends_at}
use Rattle.flow_uniform.specs.Holdings.{IsHeld}
use Rattle.flow_uniform.proofs.stepping.sweep.Given as goal

abbrev pub invariant-loop-step : goal.invariant-loop-step
invariant-loop-step l =
    record {
      held : IsHeld l.instance (record { flows = l.flows; leaving = l.leaving; ranks = l.heap }) (length l.instance.arcs);
      cuts : AreCuts l.instance l.flows l.cuts l.step l.step;
      load : l.load ≡ load_at l.instance.arcs l.flows l.step + flow_where (ends_at l.step) l.instance.arcs l.flows;
    }
