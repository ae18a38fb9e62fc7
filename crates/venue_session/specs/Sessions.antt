-- A whole session.
use Rattle.std.specs.Prelude.{ℕ, ◌+◌, ◌<◌, ◌≤◌, ◌^◌, List, length}
use Rattle.std.specs.Io.KnownBytes.{Consumes}
use mathlib.Core.List.{IsPrefix}
use Rattle.venue_hall.specs.Histories.{IsLegal}
use Rattle.venue_hall.specs.Facts.{Facts, IsSameHall}
use Rattle.venue_session.specs.Acting.{Acts}
use Rattle.venue_session.specs.Ends.{Measured, Run, Ended}
use Rattle.venue_session.specs.Steps.{StaysOrRose}
use Rattle.venue_session.specs.declared.ends.End.{End}

-- a session that found a legal history: messages from the front of the bytes that the connection lost were acted on, and the rest is as
-- its end says; before its last read fewer than 2^40 bytes were taken
pub record IsSession (keys : List (List ℕ)) (old new : Facts) (connection : Measured) (end : End) : Type 0 where
  pub legal : IsLegal old.seen
  pub run : Run
  pub took : Consumes connection.left_before connection.left_after run.bytes
  pub bound : length run.bytes < 2 ^ 40 + 81920
  pub acts : Acts keys old run.bytes run.acted run.out run.facts run.rest
  pub ended : Ended keys end run connection new

-- the hall behind a session: it is the same hall, what it sees at most grew and is a legal history, and no count fell
pub record HasServed (old new : Facts) : Type 0 where
  pub same : IsSameHall old new
  pub grows : IsPrefix old.seen new.seen
  pub legal : IsLegal new.seen
  pub made : old.made ≤ new.made
  pub faults : old.faults ≤ new.faults
  pub looks : StaysOrRose old.looks new.looks
