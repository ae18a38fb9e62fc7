-- Histories of which the last version's rows aren't known.
use Rattle.std.specs.Prelude.{List}
use Rattle.venue_state.specs.Closed.{Version}
use Rattle.venue_state.specs.Entry.{Entry}
use Rattle.venue_state.specs.Histories.{Replays}
use Rattle.venue_state.specs.Replaying.{IsLeft}
use Rattle.venue_state.specs.declared.outgoing.Outgoing.{Outgoing}

-- the history leads to a version of which this is left
pub record LeadsTo (entries : List Entry) (left : Outgoing) : Type 0 where
  pub version : Version
  pub replays : Replays entries version
  pub left_is : IsLeft version left
