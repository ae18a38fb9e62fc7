use Rattle.link_graph.specs.Graphs.{network}
use Rattle.link_graph.proofs.Across.{has_way}
use Rattle.link_graph.proofs.laws.detour_law.Goals as goal

pub returns : goal.returns
returns c = λ features settings closed profile first second u is one two behind way unit joined. has_way c.passable_law.ensures (network c.args.graph.now) c.detour_law.ensures features settings is closed profile first second u (record {
  first_usable = one;
  second_usable = two;
  behind = behind;
  same_way = way;
  unit = unit;
  joined = joined;
})
