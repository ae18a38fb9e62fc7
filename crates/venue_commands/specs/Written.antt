-- What `canon BASE FOLDER FILE` prints.
use Rattle.std.specs.Prelude.{ℕ, List, []}
use Rattle.venue_types.specs.declared.files.Slot.{Slot}
use Rattle.venue_types.specs.declared.files.Slot.TheVariants.{Absent, Held}
use Rattle.venue_types.specs.declared.folder_file.File.{File}
use Rattle.venue_ports.specs.Files.{StoredFile}
use Rattle.imdf_write.specs.Folder.{canonical_file}
use Rattle.venue_session.specs.Venues.{SeenVenue as Venue}
use Rattle.venue_commands.specs.declared.status.Status.{Status}
use Rattle.venue_commands.specs.declared.status.Status.TheVariants.{Done}
use Rattle.venue_commands.specs.Checked.{NoVenue, HasVenue}

-- the bytes of a file and nothing behind them; none where there is no such file
abbrev pub slot_text : Slot → List ℕ
slot_text Absent = []
slot_text (Held bytes) = bytes

-- the text of a file of the folder in the fixed form that has the features of this venue
abbrev pub written_text : Venue → File → List ℕ
written_text venue file = slot_text (canonical_file venue.features file)

-- `canon BASE FOLDER FILE`: the folder is judged before anything of it is written
pub data CanonOutput (files : List StoredFile) (base folder : List ℕ) (file : File) : List ℕ → Status → Type 0 where
  no_venue : {text : List ℕ} {status : Status} → NoVenue files base folder text status → CanonOutput files base folder file text status
  written : (venue : Venue) → HasVenue files base folder venue → CanonOutput files base folder file (written_text venue file) Done
