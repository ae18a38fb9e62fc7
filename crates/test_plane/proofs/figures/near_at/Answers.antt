use Rattle.test_figures.proofs.BoxLemmas.{all_close}
use Rattle.test_plane.proofs.figures.near_at.Goals as goal

pub near-requires-clause-close : goal.near-requires-clause-close
near-requires-clause-close c = all_close _ _ c.at.ensures c.requires
