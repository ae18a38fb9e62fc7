-- What is seen of the hall of one thread.
use Rattle.std.specs.Prelude.{ℕ, ◌-◌, List, [], ◌∷◌, Option, length}
use Rattle.std.specs.declared.alloc.Global.{Global}
use Rattle.std.specs.declared.sync.Arc.{Arc}
use Rattle.venue_ports.specs.Files.{StoredFile}
use Rattle.venue_hall.specs.Venues.{SeenVenue as Venue}
use Rattle.venue_hall.specs.Act.TheVariants.{Published}
use Rattle.venue_hall.specs.Entry.{Entry}
use Rattle.venue_hall.specs.Facts.{Facts}
use Rattle.board_copies.specs.Making.{shelf_of}

-- it sees all entries, of which it made all but the first, over folders that tell these files below a base and failed so often
abbrev pub one_thread : Option (List StoredFile) → List ℕ → List Entry → ℕ → ℕ → Facts
one_thread stored base entries faults looks = record {
  worker = 1;
  parts = 1;
  files = shelf_of stored base;
  seen = entries;
  made = length entries - 1;
  faults = faults;
  looks = looks;
}
