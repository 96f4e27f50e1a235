use Rattle.std.proofs.Common.{◌≡◌, ◌++◌, filter, not, take}
use Rattle.flow_model.specs.Instances.{arc_at}
use Rattle.flow_windows.specs.Cuts.{starts_in}
use Rattle.window_arcs.proofs.arcs.WindowArcs.push_ending.Given as goal

-- of those that end in the window, the ones so far that start in another
abbrev pub invariant-loop-number : goal.invariant-loop-number
invariant-loop-number l = l.numbers.items ≡ l.initial.numbers.items ++ filter (λ i. not (starts_in l.fn.self.cut.width l.fn.self.cut.number (arc_at l.fn.self.cut.whole.arcs i))) (take l.number-index l.number-items)
