use Rattle.plane_trees.proofs.run_rays.+is_odd_at_run.Given as goal

abbrev pub decreases-is_odd_at_run : goal.decreases-is_odd_at_run
decreases-is_odd_at_run l = l.run.depth
