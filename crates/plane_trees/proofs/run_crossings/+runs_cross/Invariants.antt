use Rattle.std.proofs.Common.{◌+◌}
use Rattle.plane_trees.proofs.run_crossings.+runs_cross.Given as goal

abbrev pub decreases-runs_cross : goal.decreases-runs_cross
decreases-runs_cross l = l.one.depth + l.other.depth
