-- From settings and files to the venue of a folder, or to what stops the command.
use Rattle.std.proofs.Common.{◌≡◌, ℕ, List, Option, Some, None, Result, Ok, Err, sym, subst}
use Rattle.std.specs.Prelude.{◌≤◌, IfOk, IfErr, IfSome, String, string_bytes}
use Rattle.std.specs.declared.alloc.Global.{Global}
use Rattle.venue_types.specs.declared.files.Files.{Files}
use Rattle.venue_types.specs.declared.settings.Settings.{Settings}
use Rattle.venue_session.specs.Built.{IsVenueOf}
use Rattle.check_text.specs.Text.{rejected_text}
use Rattle.venue_ports.specs.Files.{StoredFile, file_at, HasReadCause}
use Rattle.venue_ports.specs.declared.folders.ReadFault.{ReadFault}
use Rattle.venue_ports.specs.declared.folders.ReadFault.TheVariants.{OutOfMemory}
use Rattle.venue_folder.specs.Shelves.{folder_path, folder_files}
use Rattle.venue_commands.specs.declared.printout.Printout.{Printout}
use Rattle.venue_commands.specs.declared.base_venue.Made.{Made}
use Rattle.venue_commands.specs.declared.base_venue.Made.TheVariants as made
use Rattle.venue_commands.specs.declared.status.Status.{Status}
use Rattle.venue_commands.specs.declared.status.Status.TheVariants.{Negative, Wrong}
use Rattle.venue_commands.specs.Files.{Reads}
use Rattle.venue_commands.specs.Steps.{IsSettled, IsMade, IsMadeOf}
use Rattle.venue_commands.specs.Checked.{SettingsForm, settings_limit, settings_name, NoVenue, no_settings, rejected}
use Rattle.venue_commands.proofs.VerifyJudging.{told_before}

-- an answer is what is said of its text and status
pub printed_as : (P : List ℕ → Status → Type 0) (text : List ℕ) (status : Status) (answer : Printout) → answer.text ≡ text → answer.status ≡ status → P text status
    → P answer.text answer.status
printed_as P text status answer same ends p = subst (P answer.text) (sym ends) (subst (λ (t : List ℕ). P t status) (sym same) p)

pub stops_at_settings : (files : Option (List StoredFile)) (base folder : List ℕ) (settled : Result Settings (String Global)) (text : String Global) (answer : Printout)
    → IfSome files (λ fs. IsSettled (file_at fs base settings_name) settled) → settled ≡ Err text → answer.text ≡ string_bytes text → answer.status ≡ Wrong
    → IfSome files (λ fs. IsMade fs base folder (made.Stopped answer))
stops_at_settings None base folder settled text answer told is printed wrong = tt
stops_at_settings (Some fs) base folder settled text answer told is printed wrong =
    printed_as (NoVenue fs base folder) (string_bytes text) Wrong answer printed wrong (no_settings (subst (IsSettled (file_at fs base settings_name)) is told))

-- a folder that is rejected, or makes a venue, under the settings of its base
pub made_under : (fs : List StoredFile) (base folder : List ℕ) (settings : Settings) (m : Made) → Reads SettingsForm settings_limit (file_at fs base settings_name) settings
    → IsMadeOf (folder_files fs (folder_path base folder)) settings m → IsMade fs base folder m
made_under fs base folder settings (made.Stopped answer) reads of =
    printed_as (NoVenue fs base folder) (rejected_text of.0) Negative answer of.2 of.3 (rejected settings of.0 reads of.1)
made_under fs base folder settings (made.Venue venue) reads of =
    let given : settings ≡ venue.settings = sym of.settings_given in
    record {
      settings = subst (Reads SettingsForm settings_limit (file_at fs base settings_name)) given reads;
      made = subst (λ (s : Settings). IsVenueOf (folder_files fs (folder_path base folder)) s venue) given of;
    }

is_made_as : (files files' : Option (List StoredFile)) (base folder : List ℕ) (settled : Result Settings (String Global)) (settings : Settings) (held : Files) (m : Made)
    → files' ≡ files → IfSome files (λ fs. IsSettled (file_at fs base settings_name) settled) → settled ≡ Ok settings
    → IfSome files' (λ fs. held ≡ folder_files fs (folder_path base folder)) → IsMadeOf held settings m → IfSome files (λ fs. IsMade fs base folder m)
is_made_as None files' base folder settled settings held m same told is read of = tt
is_made_as (Some fs) files' base folder settled settings held m same told is read of =
    let reads = subst (IsSettled (file_at fs base settings_name)) is told in
    let named : held ≡ folder_files fs (folder_path base folder) = told_before (λ gs. held ≡ folder_files gs (folder_path base folder)) fs files' same read in
    made_under fs base folder settings m reads (subst (λ (h : Files). IsMadeOf h settings m) named of)

pub is_made : (files files' : Option (List StoredFile)) (base folder : List ℕ) (settled : Result Settings (String Global)) (settings : Settings) (held : Files) (r : Result Made ReadFault)
    → files' ≡ files → IfSome files (λ fs. IsSettled (file_at fs base settings_name) settled) → settled ≡ Ok settings
    → IfSome files' (λ fs. held ≡ folder_files fs (folder_path base folder)) → IfOk r (IsMadeOf held settings)
    → IfOk r (λ m. IfSome files (λ fs. IsMade fs base folder m))
is_made files files' base folder settled settings held (Err e) same told is read of = tt
is_made files files' base folder settled settings held (Ok m) same told is read of =
    is_made_as files files' base folder settled settings held m same told is read of

-- what came after a read that did not fail lacked memory at most
pub memory_cause : {Y : Type 0} (before now : ℕ) (r : Result Y ReadFault) → before ≤ now → now ≡ before → IfErr r (λ why. why ≡ OutOfMemory) → HasReadCause before now r
memory_cause before now (Ok y) later kept memory = record { later = later; failed = λ is. absurd cc; kept = kept; kept_without_memory = λ is. kept }
memory_cause before now (Err e) later kept memory = record { later = later; failed = λ is. absurd cc; kept = tt; kept_without_memory = λ is. kept }
