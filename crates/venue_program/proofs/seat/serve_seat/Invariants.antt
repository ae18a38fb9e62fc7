use Rattle.std.proofs.Common.{[], None}
use Rattle.shared_hall.specs.Copied.{entries_in, book_in}
use Rattle.shared_hall.specs.Making.{shelf_of}
use Rattle.venue_program.proofs.seat.serve_seat.Given as goal

abbrev pub ghosts-serve_under-N-HallName : goal.ghosts-serve_under-N-HallName
ghosts-serve_under-N-HallName g a = record {
  book = book_in a.plan.copies;
  opening = entries_in a.plan.copies;
  keys = [];
  folder_count = g.F.Folders.faults a.folders;
  log_count = g.J.Log.faults a.log;
  folder_files = shelf_of (g.F.Folders.files a.folders) a.plan.base;
  connections = 0;
  accepted = 0;
  binds = None;
  bound = None;
  door_count = 0;
}

abbrev pub ghosts-serve_under-N-Ledger : goal.ghosts-serve_under-N-Ledger
ghosts-serve_under-N-Ledger g a = record { name = a.blank.name; parts = a.blank.parts }
