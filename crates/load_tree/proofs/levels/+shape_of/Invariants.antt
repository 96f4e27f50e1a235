use Rattle.load_tree.proofs.levels.+shape_of.Given as goal

abbrev pub decreases-shape_of : goal.decreases-shape_of
decreases-shape_of l = l.count
