-- What is closed is marked over the new rows, whatever version it is left of.
use Rattle.std.proofs.Common.{◌≡◌, ◌∙◌, ap}
use Rattle.std.specs.Arc.{arc_value}
use Rattle.route_search.specs.Graphs.{network}
use Rattle.route_search.specs.Nodes.{closables}
use Rattle.venue_history.specs.Venues.{SeenVenue as Venue}
use Rattle.venue_state.proofs.Outgoings.{next_after, dropped_behind}
use Rattle.venue_state.proofs.stand_after.succeeding.Goals as goal

pub returns-clause-next : goal.returns-clause-next
returns-clause-next c v left =
    let are : (network c.graph.result.now).closables ≡ closables (arc_value c.args.venue.now).features =
    c.graph.ensures.closables_are ∙ ap (λ (v : Venue). closables v.features) c.deref.ensures in
    let ids = (network c.graph.result.now).closables in
    next_after v c.args.left.now c.args.venue.now _ c.in_ok-tally.field-0.tally.marks ids c.as_slice.result.now left
    c.as_slice.ensures are c.in_ok-tally.ensures.marked c.in_ok-stand.ensures.next

pub returns-clause-dropped : goal.returns-clause-dropped
returns-clause-dropped c v left =
    let are : (network c.graph.result.now).closables ≡ closables (arc_value c.args.venue.now).features =
    c.graph.ensures.closables_are ∙ ap (λ (v : Venue). closables v.features) c.deref.ensures in
    dropped_behind v c.args.left.now c.args.venue.now _ (network c.graph.result.now).closables c.as_slice.result.now left c.as_slice.ensures are c.in_ok-tally.ensures.dropped
