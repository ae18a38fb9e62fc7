-- What becomes of a journal that is read back.
use Rattle.std.specs.Prelude.{◌≡◌, ℕ, ◌+◌, ◌≤◌, List, [], ◌∷◌, ◌++◌, length, Option, Some, None, IfSome}
use Rattle.venue_types.specs.declared.settings.Settings.{Settings}
use Rattle.venue_ports.specs.Causes.{Rose}
use Rattle.venue_ports.specs.Moments.{Moment, Now, Leaves}
use Rattle.venue_hall.specs.Entry.{Entry}
use Rattle.venue_hall.specs.Histories.{IsLegal}
use Rattle.venue_hall.specs.Openings.{HaveSettings}
use Rattle.venue_hall.specs.Records.{Logged}
use Rattle.venue_hall.specs.Standing.{StandsFor, StandFor}
use Rattle.board_copies.specs.declared.resuming.Resumed.{Resumed}
use Rattle.board_copies.specs.Stamps.{entries_of}
use Rattle.change_journal.specs.Places.{IsDamagedAt}
use Rattle.change_journal.specs.Readers.{HasOnlyRead}
use Rattle.change_journal.specs.Reading.{records_in}
use Rattle.change_journal.specs.Texts.{IsJournal}
use Rattle.journal_restore.specs.declared.restored.RestoreFault.{RestoreFault}
use Rattle.journal_restore.specs.declared.restored.RestoreFault.TheVariants as fault

-- the entries of a history that goes on, or none
abbrev pub resumed_entries : Option Resumed → List Entry
resumed_entries None = []
resumed_entries (Some resumed) = entries_of resumed.held.stamp

-- the history is none, or a legal one under these settings
pub record IsUnder (settings : Settings) (entries : List Entry) (resumed : Option Resumed) : Type 0 where
  pub legal : IfSome resumed (λ r. IsLegal entries)
  pub settings_are : IfSome resumed (λ r. r.held.board.settings ≡ settings)
  pub all_settings : HaveSettings settings entries

-- the bytes are a journal of so many records, and these stand for the entries
pub record IsReplayed (settings : Settings) (count : ℕ) (entries : List Entry) (bytes : List ℕ) : Type 0 where
  pub journal : IsJournal (records_in count bytes) bytes
  pub stand : StandFor settings (records_in count bytes) entries

-- the journal on the disk was read back: what the disk reads at the call, and reads still, and all that a stop may leave of it now, is a journal
-- whose records stand for the entries, which are none or legal. A disk that told still tells, and nothing was written
pub record IsRestored (settings : Settings) (old new : List Moment) (count : ℕ) (resumed : Option Resumed) : Type 0 where
  pub counted : count ≡ length (resumed_entries resumed)
  pub under : IsUnder settings (resumed_entries resumed) resumed
  pub replayed : Now (λ m. IsReplayed settings count (resumed_entries resumed) m.reads) old
  pub settled : Now (λ m. (image : List ℕ) → Leaves m image → image ≡ m.reads) new
  pub only : HasOnlyRead old new
  pub told : new ≡ [] → old ≡ []

-- of the records the one with this number, the first being 1, is the first that may not follow: those in front of it stand for entries that are none
-- or legal, and no entry for which it stands makes these a longer legal history
pub record IsUnfitAt (settings : Settings) (number : ℕ) (records : List Logged) : Type 0 where
  pub front : List Logged
  pub kept : Logged
  pub behind : List Logged
  pub is : records ≡ front ++ kept ∷ behind
  pub number_is : number ≡ length front + 1
  pub entries : List Entry
  pub stand : StandFor settings front entries
  pub legal : (entries ≡ [] → ⊥) → IsLegal entries
  pub unfit : (entry : Entry) → StandsFor settings kept entry → IsLegal (entries ++ entry ∷ []) → ⊥

-- the bytes are a journal of records of which the one with this number is the first that may not follow
pub record IsUnfit (settings : Settings) (number : ℕ) (bytes : List ℕ) : Type 0 where
  pub records : List Logged
  pub journal : IsJournal records bytes
  pub unfit : IsUnfitAt settings number records

-- why the bytes that were read are not restored; a fault of the disk and want of memory say nothing of them
abbrev pub IsCause : Settings → RestoreFault → List ℕ → Type 0
IsCause settings fault.Failed bytes = Unit {0}
IsCause settings (fault.Damaged place) bytes = IsDamagedAt place bytes
IsCause settings (fault.Unfit number) bytes = IsUnfit settings number bytes
IsCause settings fault.OutOfMemory bytes = Unit {0}

-- the disk's count of failures before and now: it rose exactly where the disk failed
abbrev pub CountsRestore : ℕ → ℕ → RestoreFault → Type 0
CountsRestore before now fault.Failed = (before ≤ now) × Rose before now
CountsRestore before now _ = now ≡ before
