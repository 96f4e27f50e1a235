use Rattle.std.proofs.Common.{◌≡◌, ◌+◌, ◌-◌, ◌*◌, ◌<◌, ◌≤◌}
use Rattle.load_tree.specs.Trees.{nodes_of}
use Rattle.load_tree.proofs.tree.shape_of.Given as goal

abbrev pub invariant-higher : goal.invariant-higher
invariant-higher l = record { whole : l.nodes ≡ nodes_of l.height; deep : l.height < l.nodes; few : l.nodes ≤ 2 * l.enough + 1 }

abbrev pub decreases-higher : goal.decreases-higher
decreases-higher l = l.enough - l.nodes
