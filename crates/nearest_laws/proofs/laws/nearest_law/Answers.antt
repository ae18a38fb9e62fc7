use Rattle.nearest_laws.proofs.Nearest.{shown_others, shown_rows}
use Rattle.nearest_laws.proofs.laws.nearest_law.Goals as goal

pub returns : goal.returns
returns g c = record {
  others = λ whole. shown_others g.F.LinkFamily.view g.P.PotentialKind.view (g.F.LinkFamily.has whole);
  rows = λ whole. shown_rows g.F.LinkFamily.view g.P.PotentialKind.view (g.F.LinkFamily.has whole);
}
