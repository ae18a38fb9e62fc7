-- The hall of one thread, as its contracts see it.
use Rattle.venue_ports.specs.declared.folders.Folders.{Ghosts}
use Rattle.board_copies.specs.Stamps.{entries_of}
use Rattle.venue_hall.specs.Facts.{Facts}
use Rattle.version_board.specs.OneThread.{one_thread}
use Rattle.version_board.specs.declared.alone.Alone.{Alone}

-- the folders that it reads
abbrev pub folders_of : {F : Type 0} {folders : Ghosts F} → Alone F folders → F
folders_of hall = hall.reader.folders

-- what is seen of it
abbrev pub facts_of : {F : Type 0} {folders : Ghosts F} → Alone F folders → Facts
facts_of {folders = folders} hall =
    one_thread (folders.files hall.reader.folders) hall.reader.base (entries_of hall.held.stamp) (folders.faults hall.reader.folders) hall.looks
