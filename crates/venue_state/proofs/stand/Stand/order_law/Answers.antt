-- What marks close is closed again by its own sets.
use Rattle.std.proofs.Common.{◌≡◌, List, subst}
use Rattle.route_search.specs.Nodes.{closables}
use Rattle.venue_history.specs.declared.entry.Closing.{Closing}
use Rattle.venue_history.specs.Closed.{set_in, closed_set}
use Rattle.venue_history.specs.Versions.{closings}
use Rattle.venue_state.specs.Boards.{version_of}
use Rattle.venue_state.proofs.Marking.{AreApart, closed_again}
use Rattle.venue_state.proofs.Replying.{closed_apart}
use Rattle.venue_state.proofs.stand.Stand.order_law.Goals as goal

apart : (c : goal.After-marks-marks) → AreApart (closables (version_of c.args.self.now).features)
apart c = subst AreApart c.graph.ensures.closables_are c.range_law.ensures.once

in_order : (c : goal.After-marks-marks) → (version_of c.args.self.now).closed ≡ closings (closed_set (version_of c.args.self.now)) (closables (version_of c.args.self.now).features)
in_order c =
    let ids = closables (version_of c.args.self.now).features in
    subst (λ (closed : List Closing). closed ≡ closings (set_in closed) ids) c.marks-marks.ensures.closed (closed_again c.marks-marks.result.now ids c.marks-marks.ensures.whole (apart c))

pub returns-clause-once : goal.returns-clause-once
returns-clause-once c = apart c

pub returns-clause-order : goal.returns-clause-order
returns-clause-order c = in_order c

pub returns-clause-closed_once : goal.returns-clause-closed_once
returns-clause-closed_once c = closed_apart (closed_set (version_of c.args.self.now)) (closables (version_of c.args.self.now).features) (version_of c.args.self.now).closed (apart c) (in_order c)
