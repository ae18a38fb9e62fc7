use Rattle.test_figures.proofs.BoxLemmas.{box_close}
use Rattle.test_plane.proofs.figures.near_edge_at.Goals as goal

pub near_edge-requires-clause-edge : goal.near_edge-requires-clause-edge
near_edge-requires-clause-edge c = box_close _ _ c.at-2.ensures c.at-3.ensures

pub near_edge-requires-clause-from_start : goal.near_edge-requires-clause-from_start
near_edge-requires-clause-from_start c = box_close _ _ c.at-2.ensures c.at.ensures

pub near_edge-requires-clause-from_end : goal.near_edge-requires-clause-from_end
near_edge-requires-clause-from_end c = box_close _ _ c.at-3.ensures c.at.ensures
