use Rattle.plane_trees.proofs.CrossingLemmas.{common_point, lines_apart}
use Rattle.plane_trees.proofs.band_laws.crossing_law.Goals as goal

pub returns-clause-common : goal.returns-clause-common
returns-clause-common c a b c' d crossed = common_point a b c' d crossed

pub returns-clause-apart : goal.returns-clause-apart
returns-clause-apart c way m a c' rest more one other low high has_one has_other = lines_apart way m a c' rest more one other low high has_one has_other
