use Rattle.opening_match.proofs.around.+add_around.Given as goal

abbrev pub decreases-add_around : goal.decreases-add_around
decreases-add_around l = l.branch.depth
