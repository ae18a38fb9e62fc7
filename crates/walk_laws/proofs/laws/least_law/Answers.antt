use Rattle.walk_laws.proofs.Theorems.{certifies_least}
use Rattle.walk_laws.proofs.WalkLemmas.{IsLeast-cost}
use Rattle.walk_laws.proofs.laws.least_law.Goals as goal

pub returns : goal.returns
returns g c = record {
  least = λ whole. certifies_least g.F.LinkFamily.view (g.F.LinkFamily.has whole);
  one_cost = λ whole a b cost cost' walk walk'. IsLeast-cost g.F.LinkFamily.view (g.F.LinkFamily.has whole) a b walk walk' cost cost';
}
