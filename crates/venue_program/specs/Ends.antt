-- How the program ends, by its status.
use Rattle.std.specs.Prelude.{◌⊎◌, ℕ, List, Option}
use Rattle.venue_ports.specs.Files.{StoredFile}
use Rattle.venue_commands.specs.declared.status.Status.{Status}
use Rattle.venue_commands.specs.Ends.{Ends}
use Rattle.venue_commands.specs.Runs.{Run}
use Rattle.venue_program.specs.Disks.{DisksRun, AreLeft}
use Rattle.venue_program.specs.Doors.{DoorsRun, AreUnasked}
use Rattle.venue_program.specs.Kept.{KeptEnds}
use Rattle.venue_program.specs.Services.{Service}

-- a command ended, and nothing was asked of the doors
pub record EndsAlone (words : List (List ℕ)) (files : Option (List StoredFile)) (run : Run) (doors : DoorsRun) (status : Status) : Type 0 where
  pub ends : Ends words files run status
  pub unasked : AreUnasked doors

-- a command ended that keeps no journal: it asked nothing of the doors, or a service did
abbrev pub PlainEnds : List (List ℕ) → Option (List StoredFile) → Run → DoorsRun → Status → Type 0
PlainEnds words files run doors status = EndsAlone words files run doors status ⊎ Service words files run doors status

-- a command ended, one that keeps no journal and left the disks, or one that keeps one
abbrev pub RunEnds : List (List ℕ) → Option (List StoredFile) → Run → DoorsRun → DisksRun → Status → Type 0
RunEnds words files run doors disks status = (PlainEnds words files run doors status × AreLeft disks) ⊎ KeptEnds words files run doors disks status
