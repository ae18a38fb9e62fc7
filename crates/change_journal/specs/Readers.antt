-- A disk that is read from the front, and never written.
use Rattle.std.specs.Prelude.{◌≡◌, ℕ, ◌+◌, ◌^◌, ◌<◌, ◌≤◌, List, []}
use Rattle.venue_ports.specs.Causes.{Rose}
use Rattle.venue_ports.specs.Moments.{Moment, Leaves, LeavesOnly, Now, ReadIsLeft}
use Rattle.venue_ports.specs.declared.folders.ReadFault.{ReadFault}
use Rattle.venue_ports.specs.declared.folders.ReadFault.TheVariants.{Failed, OutOfMemory}
use Rattle.venue_hall.specs.Records.{Logged, LoggedAct, IsLoggable, published, closed, reopened}
use Rattle.change_journal.specs.Places.{IsClosedAt, IsRecordAt, IsBrokenAt}
use Rattle.change_journal.specs.declared.found.Found.{Found}
use Rattle.change_journal.specs.declared.found.Found.TheVariants as found
use Rattle.change_journal.specs.declared.found.FoundAct.{FoundAct}
use Rattle.change_journal.specs.declared.found.FoundAct.TheVariants as act
use Rattle.change_journal.specs.declared.found.FoundRecord.{FoundRecord}
use Rattle.change_journal.specs.declared.found.Skipped.{Skipped}
use Rattle.change_journal.specs.declared.found.Skipped.TheVariants as skipped

-- what a read gives is kept: a stop leaves it and nothing else
pub record IsSettled (m : Moment) : Type 0 where
  pub synced : m.synced ≡ m.reads
  pub loose : m.loose ≡ []

-- nothing was written meanwhile: a read gives what it gave, a stop leaves what it might have left before, and a disk that told nothing tells nothing
pub record HasOnlyRead (old new : List Moment) : Type 0 where
  pub reads : Now (λ m. Now (λ n. n.reads ≡ m.reads) new) old
  pub only : Now ReadIsLeft old → LeavesOnly (λ image. Now (λ m. Leaves m image) old) old new
  pub untold : old ≡ [] → new ≡ []

-- what is seen of a reader: its disk, and how many bytes a read gives
pub record Opened (K : Type 0) : Type 0 where
  pub disk : K
  pub length : ℕ

-- the act of a record that was read
abbrev pub kept_act : FoundAct → LoggedAct
kept_act (act.Published files) = published files.slots
kept_act (act.Closed feature profiles) = closed feature profiles.0
kept_act (act.Reopened feature profiles) = reopened feature profiles.0

abbrev pub kept_of : FoundRecord → Logged
kept_of it = record { worker = it.worker; act = kept_act it.act }

-- what was found at the place is what stands there
abbrev pub IsFoundAt : ℕ → Found → List ℕ → Type 0
IsFoundAt place found.Closed bytes = IsClosedAt place bytes
IsFoundAt place found.Broken bytes = IsBrokenAt place bytes
IsFoundAt place (found.Record it) bytes = IsRecordAt place it.next (kept_of it) bytes

-- the same where a record was skipped
abbrev pub IsSkippedAt : ℕ → Skipped → List ℕ → Type 0
IsSkippedAt place skipped.Closed bytes = IsClosedAt place bytes
IsSkippedAt place skipped.Broken bytes = IsBrokenAt place bytes
IsSkippedAt place (skipped.Record next) bytes = (entry : Logged) × IsRecordAt place next entry bytes

-- the count of a disk's failures before and now, where it wasn't opened: it rose exactly where the disk failed
abbrev pub CountsRead : ℕ → ℕ → ReadFault → Type 0
CountsRead before now Failed = (before ≤ now) × Rose before now
CountsRead before now OutOfMemory = now ≡ before

-- the next gate stands behind the place and within so many bytes, and a record has less than 2^30 of them
pub record IsNextOf (place count next : ℕ) : Type 0 where
  pub behind : place < next
  pub within : next < count
  pub short : next ≤ place + 2 ^ 30

-- the same of a record that was found, whose files are seventeen, also where the disk tells nothing
abbrev pub IsRecordWithin : ℕ → ℕ → Found → Type 0
IsRecordWithin place count (found.Record it) = IsNextOf place count it.next × IsLoggable (kept_of it)
IsRecordWithin place count _ = Unit {0}

abbrev pub IsSkippedWithin : ℕ → ℕ → Skipped → Type 0
IsSkippedWithin place count (skipped.Record next) = IsNextOf place count next
IsSkippedWithin place count _ = Unit {0}
