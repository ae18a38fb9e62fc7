use Rattle.walk_laws.proofs.Reaches.{below_lesser, below_certificate}
use Rattle.walk_laws.proofs.laws.below_law.Goals as goal

pub returns : goal.returns
returns g c = record {
  lesser = below_lesser g.P.PotentialKind.view;
  certificate = λ whole. below_certificate g.F.LinkFamily.view (g.F.LinkFamily.has whole) g.P.PotentialKind.view;
}
