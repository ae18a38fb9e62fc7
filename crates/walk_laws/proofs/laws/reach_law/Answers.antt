use Rattle.walk_laws.proofs.Reaches.{reach_has_least, reach_least, reach_beyond, reach_reached, reach_cut, reach_certificate}
use Rattle.walk_laws.proofs.laws.reach_law.Goals as goal

pub returns : goal.returns
returns g c = record {
  has_least = λ whole. reach_has_least g.F.LinkFamily.view (g.F.LinkFamily.has whole);
  least = λ whole. reach_least g.F.LinkFamily.view (g.F.LinkFamily.has whole);
  beyond = λ whole. reach_beyond g.F.LinkFamily.view (g.F.LinkFamily.has whole);
  reached = λ whole. reach_reached g.F.LinkFamily.view (g.F.LinkFamily.has whole);
  cut = λ whole. reach_cut g.F.LinkFamily.view (g.F.LinkFamily.has whole);
  certificate = λ whole. reach_certificate g.F.LinkFamily.view (g.F.LinkFamily.has whole);
}
