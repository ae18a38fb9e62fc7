use Rattle.plane_trees.proofs.grove_borders.+is_near_grove.Given as goal

abbrev pub decreases-is_near_grove : goal.decreases-is_near_grove
decreases-is_near_grove l = l.grove.depth
