use Rattle.venue_nodes.specs.Rows.{row_list}
use Rattle.link_graph.proofs.MadeSeats.{seats_few, places_in}
use Rattle.link_graph.proofs.seats.seats_of.Goals as goal

pub seats_in-requires-clause-places : goal.seats_in-requires-clause-places
seats_in-requires-clause-places c = places_in c.args.crossings.now (row_list c.args.rows.now) c.loop-node.node c.memberships-memberships.result.now c.memberships-memberships.ensures c.requires.tables

pub seats_in-requires-clause-few : goal.seats_in-requires-clause-few
seats_in-requires-clause-few c = seats_few c.args.crossings.now (row_list c.args.rows.now) c.loop-node.node c.memberships-memberships.result.now c.memberships-memberships.ensures c.requires.tables c.requires.roomy.squares
