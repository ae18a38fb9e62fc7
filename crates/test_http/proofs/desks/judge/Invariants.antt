use Rattle.venue_ports.specs.Doors.{doors_accepted, doors_binds, doors_bound, doors_faults}
use Rattle.venue_ports.specs.InMemory.{memory_files, memory_faults}
use Rattle.shared_hall.specs.Making.{shelf_of}
use Rattle.shared_hall.specs.Copied.{entries_in, book_in}
use Rattle.test_http.proofs.desks.judge.Given as goal

abbrev pub ghosts-judge_under-N-HallName : goal.ghosts-judge_under-N-HallName
ghosts-judge_under-N-HallName g a = record {
  book = book_in a.copies;
  opening = entries_in a.copies;
  keys = a.front.now;
  folder_count = memory_faults a.folders;
  log_count = 0;
  folder_files = shelf_of (memory_files a.folders) a.base;
  connections = a.connections;
  accepted = doors_accepted a.doors;
  binds = doors_binds a.doors;
  bound = doors_bound a.doors;
  door_count = doors_faults a.doors;
}

abbrev pub ghosts-judge_under-N-Ledger : goal.ghosts-judge_under-N-Ledger
ghosts-judge_under-N-Ledger g a = record { name = a.blank.name; parts = a.blank.parts }
