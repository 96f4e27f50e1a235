use Rattle.std.proofs.Common.{ℕ, ◌<◌}
use Rattle.flow_model.specs.Instances.{IsArc, arc_at}
use Rattle.bounds_tests.proofs.flow_uniform_instances.all_fit.Given as goal

abbrev pub invariant-loop-arc : goal.invariant-loop-arc
invariant-loop-arc l = (k : ℕ) → k < l.arc-index → IsArc l.steps (arc_at l.arcs k)
