-- The walk that is known is a least one over whatever links were searched.
use Rattle.std.proofs.Common.{sym}
use Rattle.venue_state.proofs.tour_ways.way_to.Goals as goal

pub returns-in_ok-walk-in-Some : goal.returns-in_ok-walk-in-Some
returns-in_ok-walk-in-Some c =
    let costs = sym c.in-Some.ensures.cost in
    (costs, λ given closed profile from over. c.in_ok-walk-in-Some.ensures.least given closed profile from c.in-Some.cost over costs)
