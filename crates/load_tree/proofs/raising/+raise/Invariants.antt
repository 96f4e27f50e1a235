use Rattle.load_tree.proofs.raising.+raise.Given as goal

abbrev pub decreases-raise : goal.decreases-raise
decreases-raise l = l.level.height
