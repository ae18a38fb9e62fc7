use Rattle.std.proofs.Common.{[], None}
use Rattle.venue_program.specs.Making.{shelf_of}
use Rattle.venue_program.specs.Copied.{entries_in, book_in}
use Rattle.test_program.proofs.hostile.seats.judge_at.Given as goal

abbrev pub ghosts-judge_under-N-HallName : goal.ghosts-judge_under-N-HallName
ghosts-judge_under-N-HallName g a = record {
  book = book_in a.copies;
  opening = entries_in a.copies;
  keys = [];
  folder_count = g.F.Folders.faults a.folders;
  log_count = 0;
  folder_files = shelf_of (g.F.Folders.files a.folders) a.base;
  connections = 0;
  accepted = 0;
  binds = None;
  bound = None;
  door_count = 0;
}

abbrev pub ghosts-judge_under-N-Ledger : goal.ghosts-judge_under-N-Ledger
ghosts-judge_under-N-Ledger g a = record { name = a.blank.name; parts = a.blank.parts }
