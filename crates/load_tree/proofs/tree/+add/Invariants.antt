use Rattle.load_tree.proofs.tree.+add.Given as goal

abbrev pub decreases-add : goal.decreases-add
decreases-add l = l.height
