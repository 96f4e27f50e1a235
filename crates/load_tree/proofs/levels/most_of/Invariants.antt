use Rattle.std.proofs.Common.{◌≡◌, ◌-◌}
use Rattle.load_tree.specs.Levels.{greatest}
use Rattle.load_tree.proofs.levels.most_of.Given as goal

-- the values before this one are seen
abbrev pub invariant-loop-place : goal.invariant-loop-place
invariant-loop-place l = l.most ≡ greatest l.values l.from (l.place - l.from)
