-- What `check BASE FOLDER` prints.
use Rattle.std.specs.Prelude.{◌≡◌, ℕ, ◌<◌, ◌≤◌, List, ◌++◌, length, Option, Some, None, Ok, Err, codes}
use Rattle.venue_types.specs.declared.finding.Report.{Report}
use Rattle.venue_types.specs.declared.settings.Settings.{Settings}
use Rattle.venue_ports.specs.Files.{StoredFile, file_at}
use Rattle.line_forms.specs.Lines.{line}
use Rattle.venue_settings.specs.declared.fault.SettingsFault.{SettingsFault}
use Rattle.venue_settings.specs.declared.fault.SettingsFault.TheVariants as fault
use Rattle.venue_settings.specs.Settings.{IsSettingsOf}
use Rattle.feature_rows.specs.Rows.{feature_count}
use Rattle.venue_session.specs.Venues.{SeenVenue as Venue}
use Rattle.venue_session.specs.Built.{IsRejected, IsVenueOf}
use Rattle.venue_folder.specs.Shelves.{folder_path, folder_files}
use Rattle.check_text.specs.Text.{rejected_text, accepted_text}
use Rattle.venue_commands.specs.declared.status.Status.{Status}
use Rattle.venue_commands.specs.declared.status.Status.TheVariants.{Done, Negative, Wrong}
use Rattle.venue_commands.specs.Files.{Reads}

abbrev pub settings_name : List ℕ
settings_name = codes "venue.toml"

abbrev pub settings_limit : ℕ
settings_limit = 1048576

-- the text of these settings
abbrev pub SettingsForm : List ℕ → Settings → Type 0
SettingsForm text settings = IsSettingsOf text (Ok settings)

-- the line of a fault; want of memory has none
abbrev pub IsFaultText : SettingsFault → List ℕ → Type 0
IsFaultText fault.NotToml text = text ≡ line (codes "settings 1")
IsFaultText (fault.Missing key) text = text ≡ line (codes "settings 2 " ++ key)
IsFaultText (fault.WrongKind key) text = text ≡ line (codes "settings 3 " ++ key)
IsFaultText (fault.Range key) text = text ≡ line (codes "settings 4 " ++ key)
IsFaultText (fault.Unknown key) text = text ≡ line (codes "settings 5 " ++ key)
IsFaultText (fault.Twice name) text = text ≡ line (codes "settings 6 " ++ name)
IsFaultText fault.OutOfMemory text = ⊥

-- what is printed where the settings stop the command: they are not there, over their limit, or have a first fault
pub data NoSettings (found : Option (List ℕ)) : List ℕ → Type 0 where
  missing : found ≡ None → NoSettings found (line (codes "missing " ++ settings_name))
  large : (bytes : List ℕ) → found ≡ Some bytes → settings_limit < length bytes → NoSettings found (line (codes "large " ++ settings_name))
  unfit : {text : List ℕ} (bytes : List ℕ) (why : SettingsFault) → found ≡ Some bytes → length bytes ≤ settings_limit → IsSettingsOf bytes (Err why) → IsFaultText why text
      → NoSettings found text

-- why there is no venue, and what is printed then: the settings stop the command, or the folder is rejected under them
pub data NoVenue (files : List StoredFile) (base folder : List ℕ) : List ℕ → Status → Type 0 where
  no_settings : {text : List ℕ} → NoSettings (file_at files base settings_name) text → NoVenue files base folder text Wrong
  rejected : (settings : Settings) (report : Report) → Reads SettingsForm settings_limit (file_at files base settings_name) settings
      → IsRejected (folder_files files (folder_path base folder)) settings report → NoVenue files base folder (rejected_text report) Negative

-- the base has the venue's settings, and under them the folder makes the venue
pub record HasVenue (files : List StoredFile) (base folder : List ℕ) (venue : Venue) : Type 0 where
  pub settings : Reads SettingsForm settings_limit (file_at files base settings_name) venue.settings
  pub made : IsVenueOf (folder_files files (folder_path base folder)) venue.settings venue

-- `check BASE FOLDER`: the settings are judged before the folder is
pub data CheckOutput (files : List StoredFile) (base folder : List ℕ) : List ℕ → Status → Type 0 where
  no_venue : {text : List ℕ} {status : Status} → NoVenue files base folder text status → CheckOutput files base folder text status
  accepted : (venue : Venue) → HasVenue files base folder venue → CheckOutput files base folder (accepted_text (feature_count venue.features) venue.notes) Done
