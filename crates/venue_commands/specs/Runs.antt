-- What is measured of a run.
use Rattle.std.specs.Prelude.{◌≡◌, ℕ, List, ◌++◌, Option, Some, None}
use Rattle.venue_ports.specs.Asked.{AskedFile}
use Rattle.venue_ports.specs.Starts.{ReadStart}
use Rattle.venue_ports.specs.declared.folders.Folders.{Ghosts as Shelves}
use Rattle.venue_ports.specs.declared.stream.Stream.{Ghosts as Consoles}

-- what folders tell before a run and after it: the count of their faults, and the files that were asked for
pub record FoldersRun : Type 0 where
  pub faults : ℕ
  pub faults_now : ℕ
  pub asked : Option (List AskedFile)
  pub asked_now : Option (List AskedFile)

-- what is measured between folders before and the same folders after
abbrev pub folders_between : {S : Type 0} → Shelves S → S → S → FoldersRun
folders_between F old new = record { faults = F.faults old; faults_now = F.faults new; asked = F.asked old; asked_now = F.asked new }

-- what was before the run and what is after it: the bytes that the console holds still and those that were written, what stood when each
-- of its reads began, the counts of faults, and the files that were asked for
pub record Run : Type 0 where
  pub left : Option (List ℕ)
  pub left_now : Option (List ℕ)
  pub written : Option (List ℕ)
  pub written_now : Option (List ℕ)
  pub starts : Option (List ReadStart)
  pub starts_now : Option (List ReadStart)
  pub console : ℕ
  pub console_now : ℕ
  pub folders : ℕ
  pub folders_now : ℕ
  pub asked : Option (List AskedFile)
  pub asked_now : Option (List AskedFile)

-- what is measured between a console before and the same after, over folders
abbrev pub run_between : {S : Type 0} → Consoles S → S → S → FoldersRun → Run
run_between C old new folders = record {
  left = C.left old;
  left_now = C.left new;
  written = C.written old;
  written_now = C.written new;
  starts = C.starts old;
  starts_now = C.starts new;
  console = C.faults old;
  console_now = C.faults new;
  folders = folders.faults;
  folders_now = folders.faults_now;
  asked = folders.asked;
  asked_now = folders.asked_now;
}

-- exactly these bytes were appended, where the bytes are told
abbrev pub Wrote : Option (List ℕ) → Option (List ℕ) → List ℕ → Type 0
Wrote None new text = new ≡ None
Wrote (Some old) new text = new ≡ Some (old ++ text)

-- no count of faults rose
pub record NoFault (run : Run) : Type 0 where
  pub console : run.console_now ≡ run.console
  pub folders : run.folders_now ≡ run.folders

-- nothing was read from the console
abbrev pub IsUnread : Run → Type 0
IsUnread run = run.left_now ≡ run.left
