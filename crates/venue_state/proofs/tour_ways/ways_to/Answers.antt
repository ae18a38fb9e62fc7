-- A way more for the next node.
use Rattle.std.proofs.Common.{arith}
use Rattle.venue_state.specs.Touring.{IsKnown, IsRow}
use Rattle.venue_state.proofs.TourTables.{zip_all}
use Rattle.venue_state.proofs.tour_ways.ways_to.Goals as goal

pub returns : goal.returns
returns c =
    let known = c.args.known.now in
    let nodes = c.args.nodes.now in
    zip_all (IsKnown known) (IsRow (IsKnown known) nodes) nodes c.loop-node.node-index c.loop-node.row (omega arith) c.loop-node.invariant
