use Rattle.plane_trees.proofs.run_walls.+wall_of_run.Given as goal

abbrev pub decreases-wall_of_run : goal.decreases-wall_of_run
decreases-wall_of_run l = l.run.depth
