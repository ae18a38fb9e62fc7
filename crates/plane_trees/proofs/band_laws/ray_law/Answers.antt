use Rattle.std.proofs.Common.{◌≤ℤ◌, ◌<ℤ◌}
use Rattle.plane_trees.specs.Line.{slant}
use Rattle.plane_exact.proofs.RayLemmas.{meets_not_up, meets_not_down}
use Rattle.plane_trees.proofs.SlantLemmas.{missed_line, missed_east, ray_west}
use Rattle.plane_trees.proofs.band_laws.ray_law.Goals as goal

pub returns-clause-under : goal.returns-clause-under
returns-clause-under c p a rest all = missed_line p a rest (λ q. p.y <ℤ q.y) (λ x y h k. meets_not_down p x y h k) all

pub returns-clause-over : goal.returns-clause-over
returns-clause-over c p a rest all = missed_line p a rest (λ q. q.y ≤ℤ p.y) (λ x y h k. meets_not_up p x y h k) all

pub returns-clause-east : goal.returns-clause-east
returns-clause-east c k p a rest all = missed_line p a rest (λ q. slant k q <ℤ slant k p) (λ x y h l. missed_east k p x y h l) all

pub returns-clause-west : goal.returns-clause-west
returns-clause-west c k p a rest all = ray_west k p a rest all
