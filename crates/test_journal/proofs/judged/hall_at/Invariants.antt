use Rattle.std.proofs.Common.{[], None}
use Rattle.shared_hall.specs.Copied.{entries_in, book_in}
use Rattle.shared_hall.specs.Making.{shelf_of}
use Rattle.test_journal.proofs.judged.hall_at.Given as goal

abbrev pub ghosts-hall_under-N-HallName : goal.ghosts-hall_under-N-HallName
ghosts-hall_under-N-HallName g a = record { book = book_in a.beginning.copies; opening = entries_in a.beginning.copies; keys = []; folder_count = g.F.Folders.faults a.beginning.folders; log_count = g.J.Log.faults a.beginning.log; folder_files = shelf_of (g.F.Folders.files a.beginning.folders) a.beginning.base; connections = 0; accepted = 0; binds = None; bound = None; door_count = 0 }

abbrev pub ghosts-hall_under-N-Ledger : goal.ghosts-hall_under-N-Ledger
ghosts-hall_under-N-Ledger g a = record { name = a.blank.name; parts = a.blank.parts }
