-- What stops a command over a journal, before anything is served.
use Rattle.std.specs.Prelude.{◌≡◌, ℕ, ◌+◌, ◌≤◌, List, [], ◌++◌, Option, Some, None, IfSome, codes}
use Rattle.std.specs.Fmt.{decimal}
use Rattle.line_forms.specs.Lines.{line}
use Rattle.check_text.specs.Text.{rejected_text}
use Rattle.venue_types.specs.declared.finding.Report.{Report}
use Rattle.venue_types.specs.declared.settings.Settings.{Settings}
use Rattle.venue_ports.specs.Files.{StoredFile, file_at}
use Rattle.venue_ports.specs.Moments.{Moment, Now}
use Rattle.venue_ports.specs.declared.folders.ReadFault.{ReadFault}
use Rattle.venue_ports.specs.declared.folders.ReadFault.TheVariants as read
use Rattle.venue_folder.specs.Shelves.{folder_path, folder_files}
use Rattle.venue_session.specs.Built.{IsRejected}
use Rattle.venue_commands.specs.declared.printout.Printout.{Printout}
use Rattle.venue_commands.specs.declared.status.Status.TheVariants.{Negative, Wrong}
use Rattle.venue_commands.specs.Checked.{NoSettings, SettingsForm, settings_limit, settings_name}
use Rattle.venue_commands.specs.Files.{Reads}
use Rattle.change_journal.specs.Places.{IsDamagedAt}
use Rattle.journal_restore.specs.declared.restored.RestoreFault.{RestoreFault}
use Rattle.journal_restore.specs.declared.restored.RestoreFault.TheVariants as fault
use Rattle.journal_restore.specs.Restores.{IsReplayed, IsUnfit}
use Rattle.journal_start.specs.declared.stop.Why.{Why}
use Rattle.journal_start.specs.declared.stop.Why.TheVariants as why

abbrev pub damaged_text : ℕ → List ℕ
damaged_text place = codes "damaged" ++ (codes " " ++ decimal place)

abbrev pub unfit_text : ℕ → List ℕ
unfit_text number = codes "unfit" ++ (codes " " ++ decimal number)

-- this line is printed as a stop, or memory runs out over it
abbrev pub IsToldOf : List ℕ → Why → Type 0
IsToldOf text (why.Printed answer) = (answer.text ≡ line text) × (answer.status ≡ Wrong)
IsToldOf text why.OutOfMemory = Unit {0}
IsToldOf text _ = ⊥

-- what becomes of a journal that isn't read back
abbrev pub IsWhyOf : RestoreFault → Why → Type 0
IsWhyOf fault.Failed w = w ≡ why.DiskFault
IsWhyOf (fault.Damaged place) w = IsToldOf (damaged_text place) w
IsWhyOf (fault.Unfit number) w = IsToldOf (unfit_text number) w
IsWhyOf fault.OutOfMemory w = w ≡ why.OutOfMemory

-- what becomes of folders that aren't read
abbrev pub IsWhyOfRead : ReadFault → Why → Type 0
IsWhyOfRead read.Failed w = w ≡ why.FolderFault
IsWhyOfRead read.OutOfMemory w = w ≡ why.OutOfMemory

-- the base has these settings, where it tells
abbrev pub AreSettingsOf : Option (List StoredFile) → List ℕ → Settings → Type 0
AreSettingsOf files base settings = IfSome files (λ fs. Reads SettingsForm settings_limit (file_at fs base settings_name) settings)

-- what is printed where the settings stop the command
abbrev pub IsSettingsStop : Option (List StoredFile) → List ℕ → Printout → Type 0
IsSettingsStop files base answer = IfSome files (λ fs. NoSettings (file_at fs base settings_name) answer.text) × (answer.status ≡ Wrong)

-- the folder is rejected under the settings, and its report is printed
abbrev pub IsFolderReport : Option (List StoredFile) → List ℕ → List ℕ → Settings → Printout → Type 0
IsFolderReport files base folder settings answer = IfSome files (λ fs. (report : Report) × IsRejected (folder_files fs (folder_path base folder)) settings report
    × (answer.text ≡ rejected_text report) × (answer.status ≡ Negative))

-- what is printed over a journal that was opened so: it is damaged at this place; its record of this number is the first that may not follow under the settings; or
-- it has no record, and the folder is rejected
pub data IsJournalStop (files : Option (List StoredFile)) (base folder : List ℕ) (settings : Settings) (opened : List Moment) (answer : Printout) : Type 0 where
  damaged : (place : ℕ) → Now (λ m. IsDamagedAt place m.reads) opened → answer.text ≡ line (damaged_text place) → answer.status ≡ Wrong
      → IsJournalStop files base folder settings opened answer
  unfit : (number : ℕ) → Now (λ m. IsUnfit settings number m.reads) opened → answer.text ≡ line (unfit_text number) → answer.status ≡ Wrong
      → IsJournalStop files base folder settings opened answer
  rejected : Now (λ m. IsReplayed settings 0 [] m.reads) opened → IsFolderReport files base folder settings answer → IsJournalStop files base folder settings opened answer
