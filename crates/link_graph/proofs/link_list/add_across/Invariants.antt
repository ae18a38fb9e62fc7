use Rattle.std.proofs.Common.{◌≡◌, ◌++◌, take}
use Rattle.std.specs.List.{flat_map}
use Rattle.link_graph.specs.Cores.{links_across_from}
use Rattle.link_graph.proofs.link_list.add_across.Given as goal

abbrev pub invariant-loop-i : goal.invariant-loop-i
invariant-loop-i l = l.links.items ≡ l.initial.links.items ++ flat_map (links_across_from l.core l.crossing l.row) (take l.i l.row)
