use Rattle.plane_trees.proofs.TreeLemmas.{last_read}
use Rattle.plane_trees.proofs.runs.last_of.Goals as goal

pub returns-in-len1-up : goal.returns-in-len1-up
returns-in-len1-up c = last_read c.args.start c.args.rest.now _ c.in-len1-up.len_at_least
