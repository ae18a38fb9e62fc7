-- With which number the process ends.
use Rattle.std.specs.Prelude.{◌≡◌, ℕ, List, [], map, Option, Result, Ok, Err, Vec, String, string_bytes}
use Rattle.std.specs.declared.alloc.Global.{Global}
use Rattle.venue_ports.specs.Files.{StoredFile}
use Rattle.venue_commands.specs.declared.status.Status.{Status}
use Rattle.venue_commands.specs.declared.status.Status.TheVariants.{Memory}
use Rattle.venue_commands.specs.Codes.{status_code}
use Rattle.venue_commands.specs.Commands.{AskNoConsole, AskNoDoors}
use Rattle.venue_commands.specs.Ends.{NothingDone}
use Rattle.venue_commands.specs.Runs.{Run}
use Rattle.venue_program.specs.declared.exit.WordsFault.{WordsFault}
use Rattle.venue_program.specs.declared.exit.WordsFault.TheVariants.{NotText, OutOfMemory}
use Rattle.venue_program.specs.Disks.{DisksRun, AreLeft}
use Rattle.venue_program.specs.Doors.{DoorsRun, AreUnasked}
use Rattle.venue_program.specs.Ends.{RunEnds}

-- the number is that of the status with which a run over these words ends
pub record Exits (words : List (List ℕ)) (files : Option (List StoredFile)) (run : Run) (doors : DoorsRun) (disks : DisksRun) (number : ℕ) : Type 0 where
  pub status : Status
  pub ends : RunEnds words files run doors disks status
  pub numbered : number ≡ status_code status

-- words of which one is no text are answered as no words are, and where memory ran out before they were read nothing is done
abbrev pub ExitsAfter : Result (Vec (String Global) Global) WordsFault → Option (List StoredFile) → Run → DoorsRun → DisksRun → ℕ → Type 0
ExitsAfter (Ok words) files run doors disks number = Exits (map string_bytes words.items) files run doors disks number
ExitsAfter (Err NotText) files run doors disks number = Exits [] files run doors disks number
ExitsAfter (Err OutOfMemory) files run doors disks number = NothingDone run × AreUnasked doors × AreLeft disks × (number ≡ status_code Memory)

-- nothing is read from the console, but where words were read that ask for a session
abbrev pub LeavesAfter : Result (Vec (String Global) Global) WordsFault → Option (List ℕ) → Option (List ℕ) → Type 0
LeavesAfter (Ok words) before now = AskNoConsole (map string_bytes words.items) → now ≡ before
LeavesAfter (Err fault) before now = now ≡ before

-- this holds, but where words were read that ask for a service
abbrev pub KeepsAfter : Result (Vec (String Global) Global) WordsFault → Type 0 → Type 0
KeepsAfter (Ok words) kept = AskNoDoors (map string_bytes words.items) → kept
KeepsAfter (Err fault) kept = kept
