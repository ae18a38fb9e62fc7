-- The two copies of a hall that isn't opened yet.
use Rattle.std.specs.Prelude.{List}
use Rattle.logbook.specs.Pages.{Book}
use Rattle.venue_hall.specs.Entry.{Entry}
use Rattle.board_copies.specs.Rules.{list_of}
use Rattle.shared_hall.specs.declared.copies.Copies.{Copies}

-- the entries of the copy that is published
abbrev pub entries_in : Copies → List Entry
entries_in copies = list_of copies.keeper.writer.desk.shown.value

-- the book in which lists get their numbers
abbrev pub book_in : Copies → Book
book_in copies = copies.roll.seen.book
