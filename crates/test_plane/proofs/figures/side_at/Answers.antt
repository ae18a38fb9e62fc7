use Rattle.test_figures.proofs.BoxLemmas.{box_close}
use Rattle.test_plane.proofs.figures.side_at.Goals as goal

pub side-requires-clause-end : goal.side-requires-clause-end
side-requires-clause-end c = box_close _ _ c.at.ensures c.at-2.ensures

pub side-requires-clause-position : goal.side-requires-clause-position
side-requires-clause-position c = box_close _ _ c.at.ensures c.at-3.ensures
