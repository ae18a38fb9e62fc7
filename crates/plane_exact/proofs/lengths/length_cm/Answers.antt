use Rattle.plane_exact.proofs.LengthLemmas.{IsLength-from_square}
use Rattle.plane_exact.proofs.lengths.length_cm.Goals as goal

pub returns-clause-length : goal.returns-clause-length
returns-clause-length c = IsLength-from_square c.args.a c.args.b c.args.kx c.args.ky _ _ c.way_square-square.ensures.value c.raise.ensures.root c.raise.ensures.least
