use Rattle.nearest_laws.proofs.Nearest.{one_rows, one_reached}
use Rattle.nearest_laws.proofs.laws.one_nearest_law.Goals as goal

pub returns : goal.returns
returns g c = record {
  nodes = λ whole nodes from limit candidates rows rows' listed listed' reached reached' is is'.
      (one_rows g.F.LinkFamily.view (g.F.LinkFamily.has whole) from candidates limit rows rows' is.first is'.first).0;
  costs = λ whole nodes from limit candidates rows rows' listed listed' reached reached' is is'.
      (one_rows g.F.LinkFamily.view (g.F.LinkFamily.has whole) from candidates limit rows rows' is.first is'.first).1;
  reached = λ whole nodes from limit candidates rows rows' listed listed' reached reached'.
      one_reached g.F.LinkFamily.view g.P.PotentialKind.view (g.F.LinkFamily.has whole) nodes from candidates limit rows rows' listed listed' reached reached';
}
