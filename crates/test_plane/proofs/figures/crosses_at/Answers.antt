use Rattle.test_figures.proofs.BoxLemmas.{box_close}
use Rattle.test_plane.proofs.figures.crosses_at.Goals as goal

pub crosses-requires-clause-first : goal.crosses-requires-clause-first
crosses-requires-clause-first c = box_close _ _ c.at.ensures c.at-2.ensures

pub crosses-requires-clause-second : goal.crosses-requires-clause-second
crosses-requires-clause-second c = box_close _ _ c.at-3.ensures c.at-4.ensures

pub crosses-requires-clause-to_start : goal.crosses-requires-clause-to_start
crosses-requires-clause-to_start c = box_close _ _ c.at.ensures c.at-3.ensures

pub crosses-requires-clause-to_end : goal.crosses-requires-clause-to_end
crosses-requires-clause-to_end c = box_close _ _ c.at.ensures c.at-4.ensures

pub crosses-requires-clause-from_end : goal.crosses-requires-clause-from_end
crosses-requires-clause-from_end c = box_close _ _ c.at-2.ensures c.at-3.ensures
