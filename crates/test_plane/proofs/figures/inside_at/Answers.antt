use Rattle.test_figures.proofs.BoxLemmas.{all_close}
use Rattle.test_plane.proofs.figures.inside_at.Goals as goal

pub inside-requires : goal.inside-requires
inside-requires c = all_close _ _ c.at.ensures c.requires
