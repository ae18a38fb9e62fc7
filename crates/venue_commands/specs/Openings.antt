-- What a session or a service of a folder comes to, before anything is served.
use Rattle.std.specs.Prelude.{◌≡◌, ℕ, List, Option, None, IfSome, length}
use Rattle.std.specs.Arc.{arc_value}
use Rattle.venue_types.specs.declared.settings.Settings.{Settings}
use Rattle.venue_ports.specs.Files.{StoredFile}
use Rattle.venue_folder.specs.Shelves.{folder_path, folder_files}
use Rattle.venue_session.specs.Built.{IsVenueOf}
use Rattle.venue_commands.specs.declared.base_venue.Made.TheVariants as made
use Rattle.venue_commands.specs.declared.start.Start.{Start}
use Rattle.venue_commands.specs.declared.reached.Reached.{Reached}
use Rattle.venue_commands.specs.declared.reached.Reached.TheVariants as reached
use Rattle.venue_commands.specs.Checked.{NoVenue, HasVenue}
use Rattle.venue_commands.specs.Commands.{Session, Asks}
use Rattle.venue_commands.specs.Steps.{IsPrinted, IsMadeOf}

-- the hall is opened with the venue that the base has in the folder, and the files that it was made of are kept
pub record IsOpeningOf (files : Option (List StoredFile)) (base folder : List ℕ) (opening : Start) : Type 0 where
  pub base_is : opening.base ≡ base
  pub made : IfSome files (λ fs. HasVenue fs base folder (arc_value opening.venue))
  pub files_are : IfSome files (λ fs. opening.files ≡ folder_files fs (folder_path base folder))

-- what a session or a service of a folder of the base comes to: the line that stops it, or the venue that is there
abbrev pub IsFolderReached : Option (List StoredFile) → List ℕ → List ℕ → Reached → Type 0
IsFolderReached files base folder (reached.Printed answer) = IfSome files (λ fs. NoVenue fs base folder answer.text answer.status)
IsFolderReached files base folder (reached.Opened opening) = IsOpeningOf files base folder opening

-- what the folder comes to under these settings: its report is printed, or a hall is opened with its venue
abbrev pub IsOpenedUnder : Option (List StoredFile) → List ℕ → List ℕ → Settings → Reached → Type 0
IsOpenedUnder files base folder settings (reached.Printed answer) = IfSome files (λ fs. IsMadeOf (folder_files fs (folder_path base folder)) settings (made.Stopped answer))
IsOpenedUnder files base folder settings (reached.Opened opening) = (opening.base ≡ base)
    × IfSome files (λ fs. IsVenueOf (folder_files fs (folder_path base folder)) settings (arc_value opening.venue))
    × IfSome files (λ fs. opening.files ≡ folder_files fs (folder_path base folder))

-- the words ask for a session of a folder, whose venue the hall is opened with
pub record IsOpening (words : List (List ℕ)) (files : Option (List StoredFile)) (opening : Start) : Type 0 where
  pub base : List ℕ
  pub folder : List ℕ
  pub asks : Asks words (Session base folder None)
  pub opens : IsOpeningOf files base folder opening

-- what is printed comes with a status of a printed line
abbrev pub IsPlainText : Reached → Type 0
IsPlainText (reached.Printed answer) = IsPrinted answer.status
IsPlainText (reached.Opened opening) = Unit {0}

-- a hall is opened under these settings, with seventeen files that make its venue
pub record IsMadeStart (settings : Settings) (opening : Start) : Type 0 where
  pub settings_are : arc_value opening.settings ≡ settings
  pub seventeen : length opening.files.slots ≡ 17
  pub made : IsVenueOf opening.files settings (arc_value opening.venue)

-- where a hall is opened it is under these settings
abbrev pub IsStartUnder : Settings → Reached → Type 0
IsStartUnder settings (reached.Printed answer) = Unit {0}
IsStartUnder settings (reached.Opened opening) = IsMadeStart settings opening
