-- What the parts of a service answer.
use Rattle.std.specs.Prelude.{◌≡◌, ◌⊎◌, ℕ, true, false, List, [], Option}
use Rattle.venue_service.specs.Ends.{Measured}
use Rattle.venue_service.specs.Copied.{entries_in}
use Rattle.venue_service.specs.Openings.{opening_history}
use Rattle.venue_service.specs.Records.{Logged}
use Rattle.venue_service.specs.Services.{HallTerms, terms_of}
use Rattle.venue_service.specs.Venues.{SeenVenue as Venue}
use Rattle.venue_service.specs.declared.service.Counts.{Counts}
use Rattle.venue_commands.specs.declared.status.Status.{Status}
use Rattle.venue_commands.specs.declared.status.Status.TheVariants.{Done, Negative, Wrong, Fault, Memory}
use Rattle.venue_commands.specs.declared.command.ServiceOf.{ServiceOf}
use Rattle.venue_commands.specs.declared.start.Start.{Start}
use Rattle.venue_program.specs.declared.ready.Ready.{Ready}
use Rattle.venue_program.specs.Doors.{DoorsRun, NobodyCame}
use Rattle.venue_program.specs.Services.{AreTerms, closing_line, IsTold, IsToldInPart, WereServed}

-- how it is told at the close what was counted
abbrev pub IsClosing : Counts → Measured → Status → Type 0
IsClosing counts console Done = IsTold console (closing_line counts) × (counts.failed ≡ false)
IsClosing counts console Fault = (IsTold console (closing_line counts) × (counts.failed ≡ true)) ⊎ IsToldInPart console (closing_line counts)
IsClosing counts console Memory = IsTold console []
IsClosing counts console Negative = ⊥
IsClosing counts console Wrong = ⊥

-- what becomes of a service behind the line that tells its address
pub data IsServedOn (terms : HallTerms) (records : Option (List Logged)) (console : Measured) (doors : DoorsRun) (status : Status) : Type 0 where
  nobody : status ≡ Memory → NobodyCame doors → IsTold console [] → IsServedOn terms records console doors status
  closed : (counts : Counts) → WereServed terms records doors counts → IsClosing counts console status → IsServedOn terms records console doors status

-- a service is ready with what was opened, as it was asked for
pub record IsReadyOf (opening : Start) (service : ServiceOf) (ready : Ready) : Type 0 where
  pub opening_is : entries_in ready.plan.copies ≡ opening_history opening.venue
  pub base_is : ready.plan.base ≡ opening.base
  pub keys : ready.plan.front ≡ opening.front
  pub workers_are : ready.plan.workers ≡ service.workers
  pub connections_are : ready.plan.connections ≡ service.connections
  pub address_is : ready.address.now ≡ service.address.now

-- a service is ready with this venue of the base, at this address
pub record IsReadyFor (base : List ℕ) (venue : Venue) (address : List ℕ) (workers connections : ℕ) (ready : Ready) : Type 0 where
  pub terms : AreTerms base venue workers connections (terms_of ready.plan)
  pub address_is : ready.address.now ≡ address
