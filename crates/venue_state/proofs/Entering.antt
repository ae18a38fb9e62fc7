-- From what becomes of a change at a board to what becomes of the history.
use Rattle.std.proofs.Common.{◌≡◌, ℕ, ◌<◌, ◌≤◌, Bool, true, false, refl, sym, subst, arith, List, [], ◌∷◌, ◌++◌, Option, Some, None, length}
use Rattle.venue_types.specs.declared.files.Files.{Files}
use Rattle.std.specs.Arc.{arc_value}
use Rattle.venue_types.specs.declared.query.Change.{Change}
use Rattle.venue_types.specs.declared.query.Change.TheVariants as change
use Rattle.venue_types.specs.declared.query.Closure.{Closure}
use Rattle.venue_types.specs.declared.reply.ClosureDone.{ClosureDone}
use Rattle.venue_types.specs.declared.reply.Reply.{Reply}
use Rattle.venue_types.specs.declared.reply.Reply.TheVariants as reply
use Rattle.venue_history.specs.Shelves.{Shelf}
use Rattle.venue_history.specs.declared.entry.Act.{Act}
use Rattle.venue_history.specs.declared.entry.Act.TheVariants as act
use Rattle.venue_history.specs.declared.entry.Entry.{Entry}
use Rattle.venue_ports.specs.Causes.{Rose}
use Rattle.venue_history.specs.Changes.{IsActOf, IsDue, TellsOf, Refuses, IsRefused, IsAccepted, IsAcceptedIf, Changes}
use Rattle.venue_history.specs.Closed.{Version}
use Rattle.venue_history.specs.Histories.{Replays}
use Rattle.venue_history.specs.Replies.{IsJournalFault}
use Rattle.venue_history.specs.Versions.{after}
use Rattle.venue_state.specs.declared.prepared.NextBoard.{NextBoard}
use Rattle.venue_state.specs.Making.{Brings, IsMade, Leaves, CountsFault}

-- the files that were read show which act comes of the change
act_of : (shelf : Option Shelf) (v : Version) (asked : Change) (done : Act) (files : Option Files) → Brings shelf v asked done files → IsActOf shelf v asked done
act_of shelf v (change.Closure closure) done None is = is
act_of shelf v (change.Publish folder) (act.Published venue) (Some files) is = record { files = files; read = is.0; makes = is.1 }
act_of shelf v (change.Closure closure) done (Some files) is = absurd is
act_of shelf v (change.Publish folder) (act.Closed it) files is = absurd is
act_of shelf v (change.Publish folder) (act.Reopened it) files is = absurd is
act_of shelf v (change.Publish folder) (act.Published venue) None is = absurd is

changed_closure : (shelf : Option Shelf) (worker : ℕ) (asked : Change) (h k : List Entry) (told : ClosureDone) → told.changed ≡ true
    → IsAccepted shelf worker asked h (reply.ClosureDone told) k → Changes shelf worker asked h (reply.ClosureDone told) k
changed_closure shelf worker asked h k told changed is =
    subst (λ (b : Bool). IsAcceptedIf b shelf worker asked h (reply.ClosureDone told) k) (sym changed) is

-- a closure that leaves the history as it is tells that nothing changed
unchanged : (shelf : Option Shelf) (v : Version) (asked : Change) (told : ClosureDone) → Refuses shelf v asked (reply.ClosureDone told) → told.changed ≡ false
unchanged shelf v (change.Closure closure) told is = is.3.changed_is
unchanged shelf v (change.Publish folder) told is = absurd is.1

refused_closure : (shelf : Option Shelf) (worker : ℕ) (asked : Change) (h k : List Entry) (told : ClosureDone) → told.changed ≡ false
    → IsRefused shelf asked h (reply.ClosureDone told) k → Changes shelf worker asked h (reply.ClosureDone told) k
refused_closure shelf worker asked h k told same is =
    subst (λ (b : Bool). IsAcceptedIf b shelf worker asked h (reply.ClosureDone told) k) (sym same) is

-- a reply that tells an act belongs to an accepted change
told_changes : (shelf : Option Shelf) (v : Version) (worker : ℕ) (asked : Change) (h k : List Entry) (done : Act) (r : Reply) → TellsOf v asked done r
    → IsAccepted shelf worker asked h r k → Changes shelf worker asked h r k
told_changes shelf v worker (change.Closure asked) h k (act.Closed it) (reply.ClosureDone told) tells is = changed_closure shelf worker (change.Closure asked) h k told tells.changed_is is
told_changes shelf v worker (change.Closure asked) h k (act.Reopened it) (reply.ClosureDone told) tells is = changed_closure shelf worker (change.Closure asked) h k told tells.changed_is is
told_changes shelf v worker (change.Publish folder) h k (act.Published venue) (reply.Published number dropped) tells is = is
told_changes shelf v worker asked h k _ _ tells is = absurd tells

-- what is ready changes the history by its entry
pub enters : (shelf : Option Shelf) (v : Version) (worker : ℕ) (asked : Change) (h k : List Entry) (ready : NextBoard) (r : Reply) (files : Option Files)
    → Replays h v → IsMade shelf v worker asked ready r files → k ≡ h ++ ready.entry ∷ [] → Changes shelf worker asked h r k
enters shelf v worker asked h k ready r files stands made grown =
    told_changes shelf v worker asked h k ready.entry.act r made.tells record {
      version = v;
      stands = stands;
      entry = ready.entry;
      may = made.may;
      by_worker = made.by_worker;
      of_change = act_of shelf v asked ready.entry.act files made.brings;
      tells = made.tells;
      grown = grown;
    }

-- what is ready and not entered, for want of memory, changes nothing
pub no_room : (shelf : Option Shelf) (worker : ℕ) (asked : Change) (h k : List Entry) → k ≡ h → Changes shelf worker asked h reply.OutOfMemory k
no_room shelf worker asked h k same = same

-- a reply that leaves the history as it is
pub stays : (shelf : Option Shelf) (v : Version) (worker : ℕ) (asked : Change) (h k : List Entry) (r : Reply) → Replays h v → Leaves shelf v asked r → k ≡ h → Changes shelf worker asked h r k
stays shelf v worker asked h k (reply.ClosureDone told) stands leaves same =
    refused_closure shelf worker asked h k told (unchanged shelf v asked told leaves) (record { kept = same; version = v; stands = stands; cause = leaves })
stays shelf v worker asked h k (reply.Published number dropped) stands leaves same = absurd leaves
stays shelf v worker asked h k (reply.JournalFault before after) stands leaves same = absurd leaves
stays shelf v worker asked h k reply.OutOfMemory stands leaves same = same
stays shelf v worker asked h k _ stands leaves same = record { kept = same; version = v; stands = stands; cause = leaves }

-- what is ready would add an entry
due_closure : (shelf : Option Shelf) (v : Version) (asked : Closure) (done : Act) → IsActOf shelf v (change.Closure asked) done → IsDue shelf v (change.Closure asked)
due_closure shelf v asked (act.Closed it) is = (it.profiles, is.1.closure_for, is.1.stood)
due_closure shelf v asked (act.Reopened it) is = (it.profiles, is.1.closure_for, is.1.stood)
due_closure shelf v asked (act.Published venue) is = absurd is

due_publication : (shelf : Option Shelf) (v : Version) (folder : List ℕ) (done : Act) → IsActOf shelf v (change.Publish folder) done → IsDue shelf v (change.Publish folder)
due_publication shelf v folder (act.Published venue) is = (arc_value venue, is)
due_publication shelf v folder (act.Closed it) is = absurd is
due_publication shelf v folder (act.Reopened it) is = absurd is

-- what is ready and isn't kept changes nothing
unkept_at : (shelf : Option Shelf) (v : Version) (worker : ℕ) (asked : Change) (done : Act) (h k : List Entry) (before after : ℕ) → Replays h v → IsActOf shelf v asked done
    → v.number < v.settings.last_version → Rose before after → k ≡ h → Changes shelf worker asked h (reply.JournalFault before after) k
unkept_at shelf v worker (change.Closure asked) done h k before after stands is room rose same =
    record { kept = same; version = v; stands = stands; cause = (due_closure shelf v asked done is, (room, rose)) }
unkept_at shelf v worker (change.Publish folder) done h k before after stands is room rose same =
    record { kept = same; version = v; stands = stands; cause = (due_publication shelf v folder done is, (room, rose)) }

pub unkept : (shelf : Option Shelf) (v : Version) (worker : ℕ) (asked : Change) (h k : List Entry) (ready : NextBoard) (r : Reply) (files : Option Files) (before after : ℕ)
    → Replays h v → IsMade shelf v worker asked ready r files → Rose before after → k ≡ h → Changes shelf worker asked h (reply.JournalFault before after) k
unkept shelf v worker asked h k ready r files before after stands made rose same =
    unkept_at shelf v worker asked ready.entry.act h k before after stands (act_of shelf v asked ready.entry.act files made.brings) made.may.room rose same

-- what leaves the history as it is isn't told as a fault of the journal, and neither is what is ready
pub no_journal_leaves : (shelf : Option Shelf) (v : Version) (asked : Change) (r : Reply) → Leaves shelf v asked r → ¬ IsJournalFault r
no_journal_leaves shelf v asked (reply.JournalFault before after) leaves is = leaves
no_journal_leaves shelf v asked _ leaves is = absurd is

untold : (v : Version) (asked : Change) (done : Act) (before after : ℕ) → TellsOf v asked done (reply.JournalFault before after) → ⊥
untold v (change.Closure asked) (act.Closed it) before after tells = tells
untold v (change.Closure asked) (act.Reopened it) before after tells = tells
untold v (change.Closure asked) (act.Published venue) before after tells = tells
untold v (change.Publish folder) (act.Closed it) before after tells = tells
untold v (change.Publish folder) (act.Reopened it) before after tells = tells
untold v (change.Publish folder) (act.Published venue) before after tells = tells

pub no_journal_tells : (v : Version) (asked : Change) (done : Act) (r : Reply) → TellsOf v asked done r → ¬ IsJournalFault r
no_journal_tells v asked done (reply.JournalFault before after) tells is = untold v asked done before after tells
no_journal_tells v asked done _ tells is = absurd is

-- a history has an entry
pub begun : (h : List Entry) (v : Version) → Replays h v → 1 ≤ length h
begun [] v stands = absurd (cc stands.leads)
begun (e ∷ es) v stands = omega arith

-- an act leaves the settings
pub same_settings : (v : Version) (done : Act) → (after v done).settings ≡ v.settings
same_settings v (act.Published venue) = refl
same_settings v (act.Closed it) = refl
same_settings v (act.Reopened it) = refl

-- what is ready tells no fault
pub made_counts : (v : Version) (asked : Change) (done : Act) (r : Reply) → TellsOf v asked done r → (before now : ℕ) → now ≡ before → CountsFault before now r
made_counts v (change.Closure asked) (act.Closed it) (reply.ClosureDone told) tells before now same = same
made_counts v (change.Closure asked) (act.Reopened it) (reply.ClosureDone told) tells before now same = same
made_counts v (change.Publish folder) (act.Published venue) (reply.Published number dropped) tells before now same = same
made_counts v _ _ _ tells before now same = absurd tells
