-- What becomes of a command that nothing stops.
use Rattle.std.specs.Prelude.{◌≡◌, ◌⊎◌, ℕ, List, Some, IfSome}
use Rattle.venue_ports.specs.Causes.{Rose}
use Rattle.venue_ports.specs.Files.{StoredFile}
use Rattle.venue_commands.specs.declared.status.Status.{Status}
use Rattle.venue_commands.specs.declared.status.Status.TheVariants.{Done, Negative, Wrong, Memory}
use Rattle.venue_commands.specs.Commands.{AskFor}
use Rattle.venue_commands.specs.Output.{Output}
use Rattle.venue_commands.specs.Runs.{Run}
use Rattle.venue_commands.specs.declared.printout.Printout.{Printout}
use Rattle.journal_start.specs.Starts.{IsStopped}
use Rattle.journal_start.specs.declared.stop.Why.TheVariants as why
use Rattle.venue_program.specs.Disks.{DisksRun}
use Rattle.venue_program.specs.Doors.{DoorsRun}
use Rattle.venue_program.specs.Kept.{AskKept}

-- neither words nor files stop the command
abbrev pub NothingStops : List (List ℕ) → List StoredFile → Type 0
NothingStops words files = (text : List ℕ) → Output words files text Wrong → ⊥

-- nor does the journal that the words name, nor the settings before it
abbrev pub NoJournalStops : List (List ℕ) → List StoredFile → DisksRun → Type 0
NoJournalStops words files disks = (base folder journal : List ℕ) (answer : Printout) → AskKept words base folder journal
    → IsStopped (Some files) disks.held base folder journal disks.disk (why.Printed answer) → answer.status ≡ Wrong → ⊥

-- the words ask for a command, neither words nor files nor a journal stop it, and nothing of the outside failed
pub record IsUnhindered (words : List (List ℕ)) (files : List StoredFile) (run : Run) (doors : DoorsRun) (disks : DisksRun) : Type 0 where
  pub asks : AskFor words
  pub unstopped : NothingStops words files
  pub unstopped_by : NoJournalStops words files disks
  pub disks_kept : Rose disks.faults disks.faults_now → ⊥
  pub disk_kept : IfSome disks.disk (λ disk. disk.faults ≡ 0)
  pub console : Rose run.console run.console_now → ⊥
  pub folders : Rose run.folders run.folders_now → ⊥
  pub doors_kept : Rose doors.faults doors.faults_now → ⊥

-- it did what it is for, or its answer is no, or memory ran out
abbrev pub IsDone : Status → Type 0
IsDone status = (status ≡ Done) ⊎ (status ≡ Negative) ⊎ (status ≡ Memory)
