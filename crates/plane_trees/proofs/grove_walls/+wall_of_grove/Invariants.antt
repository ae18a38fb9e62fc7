use Rattle.plane_trees.proofs.grove_walls.+wall_of_grove.Given as goal

abbrev pub decreases-wall_of_grove : goal.decreases-wall_of_grove
decreases-wall_of_grove l = l.grove.depth
