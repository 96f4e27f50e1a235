use Rattle.load_tree.proofs.tree.+max.Given as goal

abbrev pub decreases-max : goal.decreases-max
decreases-max l = l.height
