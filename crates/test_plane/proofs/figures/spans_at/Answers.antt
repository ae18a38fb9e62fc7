use Rattle.test_figures.proofs.BoxLemmas.{doubled_close}
use Rattle.test_plane.proofs.figures.spans_at.Goals as goal

pub spans-requires-clause-close : goal.spans-requires-clause-close
spans-requires-clause-close c = doubled_close _ _ c.spot_at.ensures c.spot_at-2.ensures
