use Rattle.std.proofs.Common.{◌≡◌, filter, not, take}
use Rattle.window_arcs.specs.Passing.{passes_at}
use Rattle.window_arcs.proofs.arcs.WindowArcs.starting.Given as goal

-- of those that start in the window, the ones so far that don't pass
abbrev pub invariant-loop-number : goal.invariant-loop-number
invariant-loop-number l = l.numbers.items ≡ filter (λ i. not (passes_at l.fn.self.cut i)) (take l.number-index l.number-items)
