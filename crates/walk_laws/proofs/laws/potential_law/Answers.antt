use Rattle.walk_laws.proofs.Potentials.{potential-listed, potential-unlisted, potential-searched}
use Rattle.walk_laws.proofs.laws.potential_law.Goals as goal

pub returns : goal.returns
returns g c = record {
  listed = potential-listed g.P.PotentialKind.view;
  unlisted = λ cost node listed. potential-unlisted g.P.PotentialKind.view cost listed node;
  searched = λ cost node listed. potential-searched g.P.PotentialKind.view cost listed node;
}
