-- A journal that is read record by record: the code's own machinery, which no public contract cites.
use Rattle.std.specs.Prelude.{◌≡◌, ℕ, ◌*◌, ◌^◌, ◌<◌, ◌≤◌, List, [], ◌++◌, length, Option, Some, None}
use Rattle.venue_types.specs.declared.settings.Settings.{Settings}
use Rattle.venue_ports.specs.Moments.{Moment, Now}
use Rattle.venue_ports.specs.declared.folders.ReadFault.{ReadFault}
use Rattle.venue_ports.specs.declared.folders.ReadFault.TheVariants as read
use Rattle.venue_hall.specs.Records.{Logged}
use Rattle.venue_hall.specs.Standing.{StandFor}
use Rattle.change_journal.specs.Places.{AreRecordsTo, IsBrokenAt, IsClosedAt, IsDamagedAt, IsRecordAt}
use Rattle.change_journal.specs.Readers.{HasOnlyRead, IsSettled, kept_of}
use Rattle.change_journal.specs.Texts.{IsClosed}
use Rattle.change_journal.specs.declared.found.FoundRecord.{FoundRecord}
use Rattle.journal_restore.specs.declared.going_on.SoFar.{SoFar}
use Rattle.journal_restore.specs.declared.restored.RestoreFault.{RestoreFault}
use Rattle.journal_restore.specs.declared.restored.RestoreFault.TheVariants as fault
use Rattle.journal_restore.specs.Judging.{HasSettings, history_entries}

-- it was only read, the disk still tells what it told, and what a read gives is kept
pub record HasTold (old new : List Moment) : Type 0 where
  pub only : HasOnlyRead old new
  pub told : new ≡ [] → old ≡ []
  pub settled : Now IsSettled new

-- why a journal isn't read back whose disk isn't read
abbrev pub unread_fault : ReadFault → RestoreFault
unread_fault read.Failed = fault.Failed
unread_fault read.OutOfMemory = fault.OutOfMemory

-- what stands at the place: a gate that isn't open, or the record
abbrev pub IsNext : ℕ → Option FoundRecord → List ℕ → Type 0
IsNext place None bytes = IsClosedAt place bytes
IsNext place (Some it) bytes = IsRecordAt place it.next (kept_of it) bytes

-- why nothing was found at the place: it is damaged, or nothing is said of the bytes
abbrev pub IsBrokenBy : ℕ → RestoreFault → List ℕ → Type 0
IsBrokenBy place fault.Failed bytes = Unit {0}
IsBrokenBy place (fault.Damaged at) bytes = (at ≡ place) × IsBrokenAt place bytes
IsBrokenBy place (fault.Unfit number) bytes = ⊥
IsBrokenBy place fault.OutOfMemory bytes = Unit {0}

-- there are two bytes or more, of which those in front of the place are the text of these records
pub record IsBegun (place : ℕ) (records : List Logged) (bytes : List ℕ) : Type 0 where
  pub more : 2 ≤ length bytes
  pub to : AreRecordsTo place records bytes

-- the same of these records and others behind them
pub record IsLonger (place : ℕ) (begun : List Logged) (bytes : List ℕ) : Type 0 where
  pub behind : List Logged
  pub is : IsBegun place (begun ++ behind) bytes

-- a gate that isn't open stands behind these records and others
pub record IsClosedBehind (begun : List Logged) (bytes : List ℕ) : Type 0 where
  pub behind : List Logged
  pub closed : IsClosed (begun ++ behind) bytes

-- the rest behind these records is damaged, or else the fault is a record's, of this number
abbrev pub IsRestFault : List Logged → ℕ → RestoreFault → List ℕ → Type 0
IsRestFault begun number fault.Failed bytes = Unit {0}
IsRestFault begun number (fault.Damaged at) bytes = IsDamagedAt at bytes
IsRestFault begun number (fault.Unfit told) bytes = (told ≡ number) × IsClosedBehind begun bytes
IsRestFault begun number fault.OutOfMemory bytes = Unit {0}

-- the place lies in front of the last byte's end, there are as many records as entries, of one byte at least and of 2^30 at most, and the history is
-- under these settings
pub record IsAt (settings : Settings) (count : ℕ) (so_far : SoFar) : Type 0 where
  pub within : so_far.place < count
  pub counted : so_far.count ≡ length (history_entries so_far.history)
  pub room : so_far.place ≤ so_far.count * 2 ^ 30
  pub few : so_far.count ≤ so_far.place
  pub settings_are : HasSettings settings so_far.history

-- what stands in front of the place are records that stand for the entries
pub record IsReadTo (settings : Settings) (so_far : SoFar) (bytes : List ℕ) : Type 0 where
  pub records : List Logged
  pub begun : IsBegun so_far.place records bytes
  pub stand : StandFor settings records (history_entries so_far.history)

-- and a gate that isn't open stands there
pub record IsReadWhole (settings : Settings) (so_far : SoFar) (bytes : List ℕ) : Type 0 where
  pub read : IsReadTo settings so_far bytes
  pub closed : IsClosedAt so_far.place bytes
