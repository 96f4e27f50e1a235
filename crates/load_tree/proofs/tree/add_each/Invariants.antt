use Rattle.load_tree.specs.Ranges.{AddsOver}
use Rattle.load_tree.proofs.tree.add_each.Given as goal

-- the steps before this one are done
abbrev pub invariant-loop-step : goal.invariant-loop-step
invariant-loop-step l = AddsOver l.initial.loads l.loads l.from l.step l.amount
