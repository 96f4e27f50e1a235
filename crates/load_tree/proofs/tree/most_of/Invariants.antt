use Rattle.load_tree.specs.Trees.{IsMostOver}
use Rattle.load_tree.proofs.tree.most_of.Given as goal

-- the steps before this one are seen
abbrev pub invariant-loop-step : goal.invariant-loop-step
invariant-loop-step l = IsMostOver l.loads l.from l.step l.most
