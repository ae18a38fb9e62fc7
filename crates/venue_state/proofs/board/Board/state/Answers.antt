-- What it keeps is of its version.
use Rattle.std.proofs.Common.{subst}
use Rattle.std.specs.Prelude.{◌≡◌, Contains, IfNone, IfSome}
use Rattle.venue_types.specs.declared.profile_set.ProfileSet.{ProfileSet}
use Rattle.route_search.specs.Nodes.{closables}
use Rattle.venue_history.specs.Closed.{Version, closed_set}
use Rattle.venue_state.proofs.board.Board.state.Goals as goal

pub returns-clause-none : goal.returns-clause-none
returns-clause-none c = subst (λ (v : Version). IfNone c.state.result (¬ Contains (closables v.features) c.args.id)) c.stand.ensures.version c.state.ensures.none

pub returns-clause-some : goal.returns-clause-some
returns-clause-some c =
    subst (λ (v : Version). IfSome c.state.result (λ (set : ProfileSet). Contains (closables v.features) c.args.id × (set ≡ closed_set v c.args.id))) c.stand.ensures.version c.state.ensures.some
