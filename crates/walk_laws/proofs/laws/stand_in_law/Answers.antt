use Rattle.walk_laws.proofs.WalkLemmas.{CostsAtLeast-map, HasNoWalk-map}
use Rattle.walk_laws.proofs.laws.stand_in_law.Goals as goal

pub returns : goal.returns
returns g c = record {
  least = λ whole other_whole other a b cost stands.
      CostsAtLeast-map g.F.LinkFamily.view g.G.LinkFamily.view (g.F.LinkFamily.has whole) (g.G.LinkFamily.has other_whole) other stands a b cost;
  none = λ whole other_whole other a b stands.
      HasNoWalk-map g.F.LinkFamily.view g.G.LinkFamily.view (g.F.LinkFamily.has whole) (g.G.LinkFamily.has other_whole) other stands a b;
}
