use Rattle.std.proofs.Common.{◌≡◌, ◌+◌, drop, length}
use Rattle.venue_nodes.specs.Rows.{row_list}
use Rattle.link_graph.specs.Cores.{links_across_all}
use Rattle.link_graph.proofs.link_list.link_count.Given as goal

-- the links of the rows before, and those of the others
abbrev pub invariant-loop-w : goal.invariant-loop-w
invariant-loop-w l =
    l.count + length (links_across_all l.core (drop l.w l.core.crossings.items) (drop l.w (row_list l.core.rows))) ≡ length (links_across_all l.core l.core.crossings.items (row_list l.core.rows))
