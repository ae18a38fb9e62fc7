use Rattle.plane_trees.proofs.over.+add_grove.Given as goal

abbrev pub decreases-add_grove : goal.decreases-add_grove
decreases-add_grove l = l.depth
