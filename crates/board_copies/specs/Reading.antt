-- What a reader finds.
use Rattle.std.specs.Prelude.{◌≡◌, List, length}
use Rattle.venue_types.specs.declared.query.Query.{Query}
use Rattle.venue_state.specs.Entry.{Entry}
use Rattle.venue_state.specs.Answers.{Answers}
use Rattle.venue_state.specs.Closed.{Version}
use Rattle.venue_state.specs.Histories.{Replays}
use Rattle.board_copies.specs.declared.seen.Seen.{Seen}

-- the entries are a legal history, the number is their number, and the reply is right at the version to which they lead
pub record IsSeen (seen : List Entry) (query : Query) (found : Seen) : Type 0 where
  pub version : Version
  pub leads : Replays seen version
  pub number_is : found.number ≡ length seen
  pub answers : Answers version query found.reply
