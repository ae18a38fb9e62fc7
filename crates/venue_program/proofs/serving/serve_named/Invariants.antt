use Rattle.venue_service.specs.Making.{shelf_of}
use Rattle.venue_service.specs.Copied.{entries_in, book_in}
use Rattle.venue_program.proofs.serving.serve_named.Given as goal

abbrev pub ghosts-serve_hall-N-HallName : goal.ghosts-serve_hall-N-HallName
ghosts-serve_hall-N-HallName g a = record {
  book = book_in a.plan.copies;
  opening = entries_in a.plan.copies;
  keys = a.plan.front;
  folder_count = g.F.Folders.faults a.folders;
  log_count = g.J.Log.faults a.log;
  folder_files = shelf_of (g.F.Folders.files a.folders) a.plan.base;
  connections = a.plan.connections;
  accepted = g.D.Doors.accepted a.doors;
  binds = g.D.Doors.binds a.doors;
  bound = g.D.Doors.bound a.doors;
  door_count = g.D.Doors.faults a.doors;
}

abbrev pub ghosts-serve_hall-N-Ledger : goal.ghosts-serve_hall-N-Ledger
ghosts-serve_hall-N-Ledger g a = record { name = a.blank.name; parts = a.blank.parts }
