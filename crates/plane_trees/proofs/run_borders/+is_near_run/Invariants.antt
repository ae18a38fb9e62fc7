use Rattle.plane_trees.proofs.run_borders.+is_near_run.Given as goal

abbrev pub decreases-is_near_run : goal.decreases-is_near_run
decreases-is_near_run l = l.run.depth
