-- What can't be closed is closed for nobody.
use Rattle.std.proofs.Common.{◌∙◌, sym}
use Rattle.route_search.specs.Nodes.{closables}
use Rattle.venue_state.specs.Boards.{version_of}
use Rattle.venue_state.proofs.Replying.{never_closed}
use Rattle.venue_state.proofs.stand.Stand.closed_set.Goals as goal

pub returns-in-None : goal.returns-in-None
returns-in-None c =
    c.nobody.ensures ∙ sym (never_closed (closables (version_of c.args.self.now).features) (version_of c.args.self.now).closed c.args.id c.order_law.ensures.order c.in-None.ensures.none)
