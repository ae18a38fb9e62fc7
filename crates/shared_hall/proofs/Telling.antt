-- What is made is told as accepted, and what isn't made as none.
use Rattle.std.proofs.Common.{◌≡◌, ℕ, false, Option, refl}
use Rattle.venue_types.specs.declared.query.Change.{Change}
use Rattle.venue_types.specs.declared.query.Change.TheVariants as change
use Rattle.venue_types.specs.declared.reply.ClosureDone.{ClosureDone}
use Rattle.venue_types.specs.declared.reply.Reply.{Reply}
use Rattle.venue_types.specs.declared.reply.Reply.TheVariants as reply
use Rattle.venue_hall.specs.Act.{Act}
use Rattle.venue_hall.specs.Act.TheVariants as act
use Rattle.venue_hall.specs.Changes.{TellsOf}
use Rattle.venue_hall.specs.Closed.{Version}
use Rattle.venue_hall.specs.Replies.{told}
use Rattle.venue_hall.specs.Shelves.{Shelf}
use Rattle.board_copies.specs.Making.{Leaves, CountsJournalFault}
use Rattle.shared_hall.specs.Keeping.{IsUnkept}
use Rattle.shared_hall.specs.Offices.{faulted}

pub made_told : (v : Version) (asked : Change) (done : Act) (r : Reply) → TellsOf v asked done r → told r ≡ 1
made_told v (change.Closure asked) (act.Closed it) (reply.ClosureDone closure) tells = rw tells.changed_is refl
made_told v (change.Closure asked) (act.Reopened it) (reply.ClosureDone closure) tells = rw tells.changed_is refl
made_told v (change.Publish folder) (act.Published venue) (reply.Published number dropped) tells = refl
made_told v (change.Closure asked) (act.Closed it) _ tells = absurd tells
made_told v (change.Closure asked) (act.Reopened it) _ tells = absurd tells
made_told v (change.Publish folder) (act.Published venue) _ tells = absurd tells
made_told v _ _ _ tells = absurd tells

-- what leaves the history as it is tells no accepted change
unchanged_told : (shelf : Option Shelf) (v : Version) (asked : Change) (it : ClosureDone) → Leaves shelf v asked (reply.ClosureDone it) → it.changed ≡ false
unchanged_told shelf v (change.Closure asked) it leaves = leaves.3.changed_is
unchanged_told shelf v (change.Publish folder) it leaves = absurd leaves.1

pub leaves_untold : (shelf : Option Shelf) (v : Version) (asked : Change) (r : Reply) → Leaves shelf v asked r → told r ≡ 0
leaves_untold shelf v asked (reply.ClosureDone it) leaves = rw (unchanged_told shelf v asked it leaves) refl
leaves_untold shelf v asked (reply.Published number dropped) leaves = absurd leaves
leaves_untold shelf v asked _ leaves = refl

-- and no fault of the journal
pub leaves_log : (shelf : Option Shelf) (v : Version) (asked : Change) (r : Reply) → Leaves shelf v asked r → (before now : ℕ) → now ≡ before → CountsJournalFault before now r
leaves_log shelf v asked (reply.JournalFault earlier later) leaves before now same = absurd leaves
leaves_log shelf v asked _ leaves before now same = same

-- what isn't kept tells no accepted change
pub unkept_untold : (before now : ℕ) (r : Reply) → IsUnkept before now r → told r ≡ 0
unkept_untold before now (reply.JournalFault earlier later) failed = refl
unkept_untold before now reply.OutOfMemory failed = refl
unkept_untold before now _ failed = absurd failed

-- what is made tells no fault of the journal
pub made_log : (v : Version) (asked : Change) (done : Act) (r : Reply) → TellsOf v asked done r → (before now : ℕ) → now ≡ before → CountsJournalFault before now r
made_log v (change.Closure asked) (act.Closed it) (reply.ClosureDone closure) tells before now same = same
made_log v (change.Closure asked) (act.Reopened it) (reply.ClosureDone closure) tells before now same = same
made_log v (change.Publish folder) (act.Published venue) (reply.Published number dropped) tells before now same = same
made_log v _ _ _ tells before now same = absurd tells

-- a pass's faults stay where an accepted change is told
pub made_faulted : (v : Version) (asked : Change) (done : Act) (r : Reply) → TellsOf v asked done r → (n : ℕ) → faulted r n ≡ n
made_faulted v (change.Closure asked) (act.Closed it) (reply.ClosureDone closure) tells n = refl
made_faulted v (change.Closure asked) (act.Reopened it) (reply.ClosureDone closure) tells n = refl
made_faulted v (change.Publish folder) (act.Published venue) (reply.Published number dropped) tells n = refl
made_faulted v _ _ _ tells n = absurd tells
