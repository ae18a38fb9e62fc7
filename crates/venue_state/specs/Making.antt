-- Changes that are made ready, wherever their history is kept.
use Rattle.std.specs.Prelude.{◌≡◌, ℕ, ◌≤◌, List, Option, Some, None, if◌then◌else◌}
use Rattle.std.specs.Arc.{arc_value}
use Rattle.venue_types.specs.declared.files.Files.{Files}
use Rattle.venue_types.specs.declared.query.Change.{Change}
use Rattle.venue_types.specs.declared.query.Change.TheVariants as change
use Rattle.venue_types.specs.declared.profile_set.ProfileSet.{ProfileSet}
use Rattle.venue_types.specs.declared.query.Closure.{Closure}
use Rattle.venue_types.specs.declared.reply.Reply.{Reply}
use Rattle.venue_types.specs.declared.reply.Reply.TheVariants as reply
use Rattle.venue_types.specs.declared.settings.Settings.{Settings}
use Rattle.venue_ports.specs.Causes.{Rose}
use Rattle.venue_ports.specs.Files.{StoredFile}
use Rattle.venue_history.specs.Built.{IsRejected, IsVenueOf}
use Rattle.venue_history.specs.Shelves.{Shelf}
use Rattle.venue_history.specs.declared.entry.Act.{Act}
use Rattle.venue_history.specs.declared.entry.Act.TheVariants as act
use Rattle.venue_history.specs.Changes.{AreRead, IsActOf, TellsOf, Refuses}
use Rattle.venue_history.specs.Closed.{Version}
use Rattle.venue_history.specs.Versions.{MayFollow, after}
use Rattle.venue_state.specs.declared.changes.Outcome.{Outcome}
use Rattle.venue_state.specs.declared.changes.Outcome.TheVariants as outcome
use Rattle.venue_state.specs.declared.prepared.NextBoard.{NextBoard}

-- the folders below a base as a shelf, where they are told
abbrev pub shelf_of : Option (List StoredFile) → List ℕ → Option Shelf
shelf_of None base = None
shelf_of (Some stored) base = Some (record { stored = stored; base = base })

-- the act that closes a feature for these profiles, or opens it again
abbrev pub closure_act : Closure → ProfileSet → Act
closure_act asked set = if asked.closed then act.Closed (record { feature = asked.feature; profiles = set }) else act.Reopened (record { feature = asked.feature; profiles = set })

-- the reply leaves the history as it is, and is right where it does, or memory ran out; that a journal fails is known only behind this
abbrev pub Leaves : Option Shelf → Version → Change → Reply → Type 0
Leaves shelf v asked reply.OutOfMemory = Unit {0}
Leaves shelf v asked (reply.Published number dropped) = ⊥
Leaves shelf v asked (reply.JournalFault before after) = ⊥
Leaves shelf v asked r = Refuses shelf v asked r

-- the act to which the change comes, and the files that were read for it: a publication's venue is made of them, a closure has none
abbrev pub Brings : Option Shelf → Version → Change → Act → Option Files → Type 0
Brings shelf v (change.Closure asked) done None = IsActOf shelf v (change.Closure asked) done
Brings shelf v (change.Publish folder) (act.Published venue) (Some files) = AreRead shelf folder files × IsVenueOf files v.settings (arc_value venue)
Brings shelf v _ _ _ = ⊥

-- what is ready is the worker's change at the version, with the board after it, the reply that tells it, and the files that were read
pub record IsMade (shelf : Option Shelf) (v : Version) (worker : ℕ) (asked : Change) (ready : NextBoard) (r : Reply) (files : Option Files) : Type 0 where
  pub by_worker : ready.entry.worker ≡ worker
  pub may : MayFollow v ready.entry
  pub next_is : ready.board ≡ after v ready.entry.act
  pub brings : Brings shelf v asked ready.entry.act files
  pub tells : TellsOf v asked ready.entry.act r

-- what becomes of the change, asked by the worker at the version
abbrev pub IsOutcome : Option Shelf → Version → ℕ → Change → Outcome → Type 0
IsOutcome shelf v worker asked (outcome.Stays r) = Leaves shelf v asked r
IsOutcome shelf v worker asked (outcome.Made ready r files) = IsMade shelf v worker asked ready r files

-- the folders' counts of faults before and now: they differ only where the reply tells a fault, and then they rose and it tells both
abbrev pub CountsFault : ℕ → ℕ → Reply → Type 0
CountsFault before now (reply.FolderFault earlier later) = (earlier ≡ before) × (later ≡ now) × (before ≤ now) × Rose before now
CountsFault before now _ = now ≡ before

-- the journal's counts of failures before and now: they differ only where the reply tells that it didn't keep the change, and then they rose and it
-- tells both
abbrev pub CountsJournalFault : ℕ → ℕ → Reply → Type 0
CountsJournalFault before now (reply.JournalFault earlier later) = (earlier ≡ before) × (later ≡ now) × (before ≤ now) × Rose before now
CountsJournalFault before now _ = now ≡ before

-- the same of the folders and of what becomes of a change: one that is ready comes without a fault
abbrev pub CountsOutcome : ℕ → ℕ → Outcome → Type 0
CountsOutcome before now (outcome.Stays r) = CountsFault before now r
CountsOutcome before now (outcome.Made ready r files) = now ≡ before

-- why a folder's files weren't read: a fault, with the folders' counts before and now, or want of memory, and no fault
abbrev pub IsUnread : ℕ → ℕ → Reply → Type 0
IsUnread before now (reply.FolderFault earlier later) = (earlier ≡ before) × (later ≡ now) × (before ≤ now) × Rose before now
IsUnread before now reply.OutOfMemory = now ≡ before
IsUnread before now _ = ⊥

-- why files make no venue: their report, or want of memory
abbrev pub IsUnmade : Files → Settings → Reply → Type 0
IsUnmade files settings (reply.Rejected report) = IsRejected files settings report
IsUnmade files settings reply.OutOfMemory = Unit {0}
IsUnmade files settings _ = ⊥
