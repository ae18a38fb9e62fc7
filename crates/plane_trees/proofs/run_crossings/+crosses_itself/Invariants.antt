use Rattle.plane_trees.proofs.run_crossings.+crosses_itself.Given as goal

abbrev pub decreases-crosses_itself : goal.decreases-crosses_itself
decreases-crosses_itself l = l.run.depth
