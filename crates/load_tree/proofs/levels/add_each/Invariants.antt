use Rattle.load_tree.specs.Ranges.{AddsOver}
use Rattle.load_tree.proofs.levels.add_each.Given as goal

-- the values before this one are done
abbrev pub invariant-loop-place : goal.invariant-loop-place
invariant-loop-place l = AddsOver l.initial.values l.values l.from l.place l.amount
