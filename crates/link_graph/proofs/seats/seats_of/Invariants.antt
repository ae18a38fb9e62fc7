use Rattle.venue_nodes.specs.Rows.{row_list}
use Rattle.link_graph.specs.Making.{AreSeats}
use Rattle.link_graph.proofs.seats.seats_of.Given as goal

-- the nodes before have their seats
abbrev pub invariant-loop-node : goal.invariant-loop-node
invariant-loop-node l = AreSeats l.crossings (row_list l.rows) l.node l.seats.items
