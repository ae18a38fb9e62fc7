use Rattle.plane_trees.proofs.grove_rays.+is_odd_at_grove.Given as goal

abbrev pub decreases-is_odd_at_grove : goal.decreases-is_odd_at_grove
decreases-is_odd_at_grove l = l.grove.depth
