-- What a reply tells by itself.
use Rattle.std.specs.Prelude.{ℕ, if◌then◌else◌}
use Rattle.venue_types.specs.declared.reply.Reply.{Reply}
use Rattle.venue_types.specs.declared.reply.Reply.TheVariants as reply
use Rattle.venue_types.specs.declared.reply.Which.{Which}

-- 1 where the reply tells that a change was accepted, else 0
abbrev pub told : Reply → ℕ
told (reply.ClosureDone done) = if done.changed then 1 else 0
told (reply.Published number dropped) = 1
told _ = 0

-- the reply says that the version asked for isn't there yet
abbrev pub IsAhead : Reply → Type 0
IsAhead (reply.Ahead since number) = Unit {0}
IsAhead _ = ⊥

-- the reply tells that the journal didn't keep a change
abbrev pub IsJournalFault : Reply → Type 0
IsJournalFault (reply.JournalFault before after) = Unit {0}
IsJournalFault _ = ⊥

-- the reply tells a fault of the outside: that a folder could not be read, or that the journal didn't keep a change
abbrev pub IsOutsideFault : Reply → Type 0
IsOutsideFault (reply.FolderFault before after) = Unit {0}
IsOutsideFault (reply.JournalFault before after) = Unit {0}
IsOutsideFault _ = ⊥

-- the kinds of replies
pub data ReplyKind : Type 0 where
  version : ReplyKind
  places : ReplyKind
  place : ReplyKind
  closures : ReplyKind
  route : ReplyKind
  no_route : ReplyKind
  tour : ReplyKind
  no_tour : ReplyKind
  nearest : ReplyKind
  closure_done : ReplyKind
  published : ReplyKind
  ahead : ReplyKind
  no_profile : ReplyKind
  no_place : Which → ReplyKind
  no_feature : ReplyKind
  folder_fault : ReplyKind
  rejected : ReplyKind
  history_full : ReplyKind
  journal_fault : ReplyKind
  out_of_memory : ReplyKind

-- the kind of a reply
abbrev pub kind_of : Reply → ReplyKind
kind_of (reply.Version number closed count) = version
kind_of (reply.Places number rows) = places
kind_of (reply.Place it) = place
kind_of (reply.Closures it) = closures
kind_of (reply.Route number from to profile start cost steps potentials) = route
kind_of (reply.NoRoute number from to profile reached) = no_route
kind_of (reply.Tour it) = tour
kind_of (reply.NoTour it) = no_tour
kind_of (reply.Nearest it) = nearest
kind_of (reply.ClosureDone done) = closure_done
kind_of (reply.Published number dropped) = published
kind_of (reply.Ahead since number) = ahead
kind_of reply.NoProfile = no_profile
kind_of (reply.NoPlace which) = no_place which
kind_of reply.NoFeature = no_feature
kind_of (reply.FolderFault before after) = folder_fault
kind_of (reply.Rejected report) = rejected
kind_of (reply.HistoryFull number) = history_full
kind_of (reply.JournalFault before after) = journal_fault
kind_of reply.OutOfMemory = out_of_memory
