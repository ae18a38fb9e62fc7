-- How a run ends, by its status.
use Rattle.std.specs.Prelude.{◌≡◌, ◌⊎◌, ℕ, List, ◌++◌, Option, IfSome, codes}
use Rattle.venue_ports.specs.Files.{StoredFile}
use Rattle.venue_ports.specs.Causes.{Rose}
use Rattle.line_forms.specs.Lines.{line}
use Rattle.venue_commands.specs.declared.status.Status.{Status}
use Rattle.venue_commands.specs.declared.status.Status.TheVariants.{Done, Negative, Wrong, Fault, Memory}
use Rattle.venue_commands.specs.Commands.{Asked, Asks}
use Rattle.venue_commands.specs.FaultOrder.{FailsAt}
use Rattle.venue_commands.specs.Output.{Output}
use Rattle.venue_commands.specs.Runs.{Run, Wrote, NoFault, IsUnread}
use Rattle.venue_commands.specs.Served.{Served}

abbrev pub folder_fault : List ℕ
folder_fault = line (codes "fault folder")

-- the output was written, all of it, and nothing failed
pub record Printed (words : List (List ℕ)) (files : Option (List StoredFile)) (run : Run) (status : Status) : Type 0 where
  pub text : List ℕ
  pub wrote : Wrote run.written run.written_now text
  pub output : IfSome files (λ fs. Output words fs text status)
  pub faultless : NoFault run
  pub unread : IsUnread run

-- a front of the output was written, and the console alone failed
pub record CutShort (words : List (List ℕ)) (files : Option (List StoredFile)) (run : Run) : Type 0 where
  pub text : List ℕ
  pub rest : List ℕ
  pub status : Status
  pub wrote : Wrote run.written run.written_now text
  pub output : IfSome files (λ fs. Output words fs (text ++ rest) status)
  pub cause : Rose run.console run.console_now
  pub folders : run.folders_now ≡ run.folders
  pub unread : IsUnread run

-- the words ask for a command, in which the folders failed at a file that had to be read; that was written, or a front of it and the
-- console failed too
pub record FolderFailed (words : List (List ℕ)) (files : Option (List StoredFile)) (run : Run) : Type 0 where
  pub asked : Asked
  pub asks : Asks words asked
  pub at : FailsAt files run.asked run.asked_now asked
  pub text : List ℕ
  pub rest : List ℕ
  pub wrote : Wrote run.written run.written_now text
  pub whole : text ++ rest ≡ folder_fault
  pub told : ((text ≡ folder_fault) × (run.console_now ≡ run.console)) ⊎ Rose run.console run.console_now
  pub cause : Rose run.folders run.folders_now
  pub unread : IsUnread run

-- memory ran out before anything was written, and nothing failed
pub record NothingDone (run : Run) : Type 0 where
  pub written : run.written_now ≡ run.written
  pub faultless : NoFault run
  pub unread : IsUnread run

-- how a command ends: one text is printed, or a session is served
abbrev pub Ends : List (List ℕ) → Option (List StoredFile) → Run → Status → Type 0
Ends words files run Memory = NothingDone run ⊎ Served words files run Memory
Ends words files run Fault = CutShort words files run ⊎ FolderFailed words files run ⊎ Served words files run Fault
Ends words files run Done = Printed words files run Done ⊎ Served words files run Done
Ends words files run Negative = Printed words files run Negative ⊎ Served words files run Negative
Ends words files run Wrong = Printed words files run Wrong
