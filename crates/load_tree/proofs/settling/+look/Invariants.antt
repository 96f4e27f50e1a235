use Rattle.load_tree.proofs.settling.+look.Given as goal

abbrev pub decreases-look : goal.decreases-look
decreases-look l = l.level.height
