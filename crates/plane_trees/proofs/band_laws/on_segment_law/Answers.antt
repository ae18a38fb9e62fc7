use Rattle.plane_trees.proofs.OnSegmentLemmas.{segment_least, segment_greatest}
use Rattle.plane_trees.proofs.band_laws.on_segment_law.Goals as goal

pub returns-clause-least : goal.returns-clause-least
returns-clause-least c way m a b v on ha hb = segment_least way m a b v on ha hb

pub returns-clause-greatest : goal.returns-clause-greatest
returns-clause-greatest c way m a b v on ha hb = segment_greatest way m a b v on ha hb
