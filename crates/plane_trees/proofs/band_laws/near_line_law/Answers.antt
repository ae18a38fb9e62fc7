use Rattle.plane_trees.proofs.NearLineLemmas.{line_at_most, line_at_least}
use Rattle.plane_trees.proofs.band_laws.near_line_law.Goals as goal

pub returns-clause-least : goal.returns-clause-least
returns-clause-least c way m p a rest t all near = line_at_least way m p a rest t all near

pub returns-clause-greatest : goal.returns-clause-greatest
returns-clause-greatest c way m p a rest t all near = line_at_most way m p a rest t all near
