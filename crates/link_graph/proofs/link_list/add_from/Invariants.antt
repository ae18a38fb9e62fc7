use Rattle.std.proofs.Common.{◌≡◌, ◌++◌, filter, map, take}
use Rattle.link_graph.specs.Cores.{link_across, joined_in}
use Rattle.link_graph.proofs.link_list.add_from.Given as goal

abbrev pub invariant-loop-j : goal.invariant-loop-j
invariant-loop-j l = l.links.items ≡ l.initial.links.items ++ map (link_across l.core l.crossing l.a) (filter (joined_in l.crossing l.row l.a) (take l.j l.row))
