use Rattle.plane_exact.specs.Corners.{turns}
use Rattle.plane_exact.proofs.CornerLaws.{corner_of, from_corner, no_corner}
use Rattle.plane_exact.proofs.corner_laws.corner_law.Goals as goal

pub returns-clause-turn : goal.returns-clause-turn
returns-clause-turn c area ring v = (corner_of area (turns ring) v, from_corner area (turns ring) v)

pub returns-clause-none : goal.returns-clause-none
returns-clause-none c area ring = no_corner area (turns ring)
