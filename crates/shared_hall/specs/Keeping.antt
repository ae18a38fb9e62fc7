-- What is kept of a change that is ready, and why it isn't.
use Rattle.std.specs.Prelude.{◌≡◌, ℕ, ◌≤◌, Option, Some, None, length}
use Rattle.std.specs.Arc.{arc_value}
use Rattle.venue_types.specs.declared.files.Files.{Files}
use Rattle.venue_types.specs.declared.reply.Reply.{Reply}
use Rattle.venue_types.specs.declared.reply.Reply.TheVariants as reply
use Rattle.venue_ports.specs.Causes.{Rose}
use Rattle.venue_hall.specs.Act.{Act}
use Rattle.venue_hall.specs.Act.TheVariants.{Published, Closed, Reopened}
use Rattle.venue_hall.specs.Built.{IsVenueOf}

-- the files that were read for an act: a publication's venue is made of seventeen, a closure and a reopening have none
abbrev pub ComesOf : Act → Option Files → Type 0
ComesOf (Published venue) (Some files) = (length files.slots ≡ 17) × IsVenueOf files (arc_value venue).settings (arc_value venue)
ComesOf (Closed it) None = Unit {0}
ComesOf (Reopened it) None = Unit {0}
ComesOf _ _ = ⊥

-- why what is ready isn't published: the log failed, with its counts before and now, or memory ran out, and the log was not asked
abbrev pub IsUnkept : ℕ → ℕ → Reply → Type 0
IsUnkept before now (reply.JournalFault earlier later) = (earlier ≡ before) × (later ≡ now) × (before ≤ now) × Rose before now
IsUnkept before now reply.OutOfMemory = now ≡ before
IsUnkept before now _ = ⊥
