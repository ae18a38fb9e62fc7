use Rattle.walk_laws.proofs.WalkLemmas.{IsWalk-append, IsWalk-split, IsWalk-end, walk_cost-append}
use Rattle.walk_laws.proofs.laws.walk_law.Goals as goal

pub returns : goal.returns
returns g c = record {
  joined = λ whole. IsWalk-append g.F.LinkFamily.view (g.F.LinkFamily.has whole);
  parted = λ whole. IsWalk-split g.F.LinkFamily.view (g.F.LinkFamily.has whole);
  added = walk_cost-append g.F.LinkFamily.view;
  one_end = λ whole. IsWalk-end g.F.LinkFamily.view (g.F.LinkFamily.has whole);
}
