use Rattle.link_graph.specs.Cores.{network_in}
use Rattle.link_graph.specs.Graphs.{network}
use Rattle.link_graph.proofs.Detouring.{leads_across}
use Rattle.link_graph.proofs.graph.Graph.detour_law.Goals as goal

pub returns : goal.returns
unfolding network network_in
returns c = λ closed profile first second across one two behind way unit there start finish same. leads_across c.detour_law.ensures c.args.self.now.core closed profile first second across (record {
  sound = c.args.self.now.sound;
  first_passable = one;
  second_passable = two;
  behind = behind;
  same_way = way;
  unit = unit;
  there = there;
  start = start;
  finish = finish;
  way = same;
})
