-- What can be passed over the graph is what can be used at the version.
use Rattle.route_search.specs.Graphs.{network}
use Rattle.route_search.specs.Marking.{marked}
use Rattle.venue_state.proofs.Routes.{version_links}
use Rattle.venue_state.proofs.tour_ways.searched.Goals as goal

pub returns : goal.returns
returns g c =
    let given = network c.graph.result.now in
    let marks = c.marks.result.now in
    let number = c.args.traveller.now.number in
    record {
      given = given;
      closed = marked given marks number;
      usable = version_links c.passable_law.ensures c.args.board.now given marks number c.args.traveller.now.profile.now c.graph.ensures c.marks.ensures.closed;
      over = c.in_ok-known.ensures.over;
      enough = c.in_ok-known.ensures.enough;
      cheap = c.in_ok-known.ensures.small.cheap;
    }
