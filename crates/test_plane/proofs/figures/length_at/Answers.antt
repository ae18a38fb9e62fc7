use Rattle.test_figures.proofs.BoxLemmas.{doubled_close}
use Rattle.test_plane.proofs.figures.length_at.Goals as goal

pub length_cm-requires-clause-close : goal.length_cm-requires-clause-close
length_cm-requires-clause-close c = doubled_close _ _ c.spot_at.ensures c.spot_at-2.ensures
