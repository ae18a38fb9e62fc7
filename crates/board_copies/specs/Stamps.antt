-- What a stamp stands for.
use Rattle.std.specs.Prelude.{List, [], Option, Some, None}
use Rattle.venue_state.specs.Entry.{Entry}
use Rattle.board_copies.specs.declared.stamp.Stamp.{Stamp}
use Rattle.board_copies.specs.Lists.{listed}

-- the list with its number
abbrev pub entries_of : Stamp → List Entry
entries_of stamp = listed stamp.seen.log stamp.number

-- the list of an earlier stamp, or none
abbrev pub entries_before : Option Stamp → List Entry
entries_before None = []
entries_before (Some stamp) = entries_of stamp
