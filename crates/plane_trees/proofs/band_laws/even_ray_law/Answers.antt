use Rattle.std.proofs.Common.{arith}
use Rattle.plane_exact.specs.Figure.{rings, IsInside}
use Rattle.plane_trees.proofs.SlantLemmas.{ray_closed}
use Rattle.plane_trees.proofs.GroveLemmas.{closed_rings}
use Rattle.plane_trees.proofs.band_laws.even_ray_law.Goals as goal

pub returns-clause-ring : goal.returns-clause-ring
returns-clause-ring c k p points closed all = ray_closed k p points closed all

pub returns-clause-shape : goal.returns-clause-shape
unfolding IsInside
returns-clause-shape c k p shape closed all odd = absurd (omega (arith, closed_rings k p (rings shape) closed all, odd))
