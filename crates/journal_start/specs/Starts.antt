-- What a hall that keeps a journal is opened with.
use Rattle.std.specs.Prelude.{◌≡◌, ℕ, List, [], Option, Some, None, IfSome, Result, Ok, Err}
use Rattle.std.specs.Arc.{arc_value}
use Rattle.std.specs.Option.{option_map}
use Rattle.std.specs.declared.alloc.Global.{Global}
use Rattle.std.specs.declared.sync.Arc.{Arc}
use Rattle.venue_session.specs.Venues.{SeenVenue as Venue}
use Rattle.venue_types.specs.declared.files.Slot.{Slot}
use Rattle.venue_types.specs.declared.settings.Settings.{Settings}
use Rattle.venue_ports.specs.Causes.{Rose, one_more}
use Rattle.venue_ports.specs.Disks.{OpensDisk}
use Rattle.venue_ports.specs.Files.{StoredFile}
use Rattle.venue_ports.specs.Moments.{Moment}
use Rattle.venue_folder.specs.Shelves.{folder_path, folder_files}
use Rattle.venue_session.specs.Built.{IsVenueOf}
use Rattle.venue_session.specs.Openings.{opening_history}
use Rattle.journal_restore.specs.Beginnings.{IsBegun}
use Rattle.journal_restore.specs.Restores.{IsRestored}
use Rattle.board_copies.specs.Stamps.{entries_of}
use Rattle.board_copies.specs.declared.resuming.Resumed.{Resumed}
use Rattle.journal_start.specs.declared.stop.Stop.{Stop}
use Rattle.journal_start.specs.declared.stop.Why.{Why}
use Rattle.journal_start.specs.declared.stop.Why.TheVariants as why
use Rattle.journal_start.specs.Stops.{AreSettingsOf, IsFolderReport, IsSettingsStop, IsJournalStop}

-- in a journal without a record, at these moments, the opening of the folder's venue was appended
pub record HasBegun (files : Option (List StoredFile)) (base folder : List ℕ) (settings : Settings) (read : List Moment) (count : ℕ) (resumed : Resumed) (now : List Moment) : Type 0 where
  pub slots : List Slot
  pub venue : Arc Venue Global
  pub made : IfSome files (λ fs. IsVenueOf (folder_files fs (folder_path base folder)) settings (arc_value venue))
  pub slots_are : IfSome files (λ fs. slots ≡ (folder_files fs (folder_path base folder)).slots)
  pub history : entries_of resumed.held.stamp ≡ opening_history venue
  pub begun : IsBegun slots read count now

-- the history and the journal that a hall goes on with, over a disk that was opened so: what was read back of it, and the folder wasn't read; or, where it had no
-- record, the opening of the folder's venue, whose record is now the one that there is
pub data IsStarted (files : Option (List StoredFile)) (base folder : List ℕ) (settings : Settings) (opened : List Moment) (unread : Type 0) (count : ℕ) (resumed : Resumed) (now : List Moment) : Type 0 where
  restored : IsRestored settings opened now count (Some resumed) → unread → IsStarted files base folder settings opened unread count resumed now
  begun : (read : List Moment) → IsRestored settings opened read 0 None → HasBegun files base folder settings read count resumed now
      → IsStarted files base folder settings opened unread count resumed now

-- why a journal without a record isn't begun: the folder is rejected, or fails, or the disk does
abbrev pub IsFolderStop : Option (List StoredFile) → List ℕ → List ℕ → Settings → Why → Type 0
IsFolderStop files base folder settings (why.Printed answer) = IsFolderReport files base folder settings answer
IsFolderStop files base folder settings _ = Unit {0}

-- what stops a command behind the settings, over a disk that was opened so
abbrev pub IsStoppedOver : Option (List StoredFile) → List ℕ → List ℕ → Settings → List Moment → Why → Type 0
IsStoppedOver files base folder settings opened (why.Printed answer) = IsJournalStop files base folder settings opened answer
IsStoppedOver files base folder settings opened _ = Unit {0}

-- what stops a command where no disk was opened
abbrev pub IsStoppedBefore : Option (List StoredFile) → List ℕ → Why → Type 0
IsStoppedBefore files base (why.Printed answer) = IsSettingsStop files base answer
IsStoppedBefore files base _ = Unit {0}

-- why nothing is served under these settings, by whether a disk was opened
abbrev pub IsStoppedUnder : {K : Type 0} → Option (List StoredFile) → Option (List StoredFile) → List ℕ → List ℕ → List ℕ → Settings → Option K → Why → Type 0
IsStoppedUnder files held base folder journal settings None (why.Printed answer) = ⊥
IsStoppedUnder files held base folder journal settings None _ = Unit {0}
IsStoppedUnder files held base folder journal settings (Some disk) w = (opened : List Moment) × OpensDisk held base journal opened × IsStoppedOver files base folder settings opened w

-- why nothing is served, by whether a disk was opened
abbrev pub IsStopped : {K : Type 0} → Option (List StoredFile) → Option (List StoredFile) → List ℕ → List ℕ → List ℕ → Option K → Why → Type 0
IsStopped files held base folder journal None w = IsStoppedBefore files base w
IsStopped files held base folder journal (Some disk) w =
    (settings : Settings) × (opened : List Moment) × AreSettingsOf files base settings × OpensDisk held base journal opened × IsStoppedOver files base folder settings opened w

-- folders rose where they are why nothing is served, and stayed else
abbrev pub CountsFolders : ℕ → ℕ → Why → Type 0
CountsFolders before now why.FolderFault = Rose before now
CountsFolders before now _ = now ≡ before

-- the disk's count rose where it is why nothing is served, and stayed else
abbrev pub CountsDisk : ℕ → ℕ → Why → Type 0
CountsDisk before now why.DiskFault = Rose before now
CountsDisk before now _ = now ≡ before

-- the disks were asked once, for this base and this journal
pub record AskedOnce (base journal : List ℕ) (opens opens_now : Option ℕ) (names names_now : Option (List ℕ × List ℕ)) : Type 0 where
  pub once : opens_now ≡ option_map one_more opens
  pub there : names_now ≡ option_map (λ _. (base, journal)) names

abbrev pub IsUnasked : Option ℕ → Option ℕ → Option (List ℕ × List ℕ) → Option (List ℕ × List ℕ) → Type 0
IsUnasked opens opens_now names names_now = (opens_now ≡ opens) × (names_now ≡ names)

abbrev pub IsAskedBy : {K : Type 0} → List ℕ → List ℕ → Option ℕ → Option ℕ → Option (List ℕ × List ℕ) → Option (List ℕ × List ℕ) → Option K → Why → Type 0
IsAskedBy base journal opens opens_now names names_now None why.DiskFault = AskedOnce base journal opens opens_now names names_now
IsAskedBy base journal opens opens_now names names_now None _ = IsUnasked opens opens_now names names_now
IsAskedBy base journal opens opens_now names names_now (Some disk) w = AskedOnce base journal opens opens_now names names_now

-- whether the disks were asked: once where a disk was opened or none could be, and not where the command stopped before
abbrev pub IsAskedFor : {S K : Type 0} → List ℕ → List ℕ → Option ℕ → Option ℕ → Option (List ℕ × List ℕ) → Option (List ℕ × List ℕ) → Result S (Stop K) → Type 0
IsAskedFor base journal opens opens_now names names_now (Ok start) = AskedOnce base journal opens opens_now names names_now
IsAskedFor base journal opens opens_now names names_now (Err stop) = IsAskedBy base journal opens opens_now names names_now stop.disk stop.why
