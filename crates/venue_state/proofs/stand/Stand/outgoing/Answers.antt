use Rattle.std.proofs.Common.{◌≢◌, List, map, refl, sym, subst}
use Rattle.std.specs.Prelude.{AllPairs}
use Rattle.venue_history.specs.declared.entry.Closing.{Closing}
use Rattle.venue_history.specs.Closed.{feature_of}
use Rattle.venue_state.specs.Boards.{version_of}
use Rattle.venue_state.proofs.stand.Stand.outgoing.Goals as goal

pub invariant_of-result : goal.invariant_of-result
invariant_of-result c =
    record { once = subst (λ (closed : List Closing). AllPairs (λ a b. a ≢ b) (map feature_of closed)) (sym c.in_ok-closed.ensures) c.order_law.ensures.closed_once }

pub returns : goal.returns
unfolding version_of
returns c = record { number_is = refl; settings_are = c.in_ok-settings.ensures; closed_is = c.in_ok-closed.ensures }
