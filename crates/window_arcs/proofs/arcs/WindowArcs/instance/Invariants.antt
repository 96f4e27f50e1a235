use Rattle.std.proofs.Common.{◌≡◌, map, take}
use Rattle.flow_model.specs.Instances.{arc_at}
use Rattle.window_arcs.proofs.arcs.WindowArcs.instance.Given as goal

-- the arcs of the numbers so far
abbrev pub invariant-loop-number : goal.invariant-loop-number
invariant-loop-number l = l.of_kept.items ≡ map (arc_at l.fn.self.cut.whole.arcs) (take l.number-index l.fn.kept)
