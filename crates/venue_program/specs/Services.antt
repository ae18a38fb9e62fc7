-- What `serve BASE FOLDER ADDRESS WORKERS CONNECTIONS` does where the folder makes a venue.
use Rattle.std.specs.Prelude.{◌≡◌, ◌⊎◌, ℕ, true, false, List, ◌++◌, Option, None, IfSome, codes}
use Rattle.std.specs.Arc.{arc_value}
use Rattle.std.specs.Fmt.{decimal}
use Rattle.std.specs.declared.alloc.Global.{Global}
use Rattle.std.specs.declared.sync.Arc.{Arc}
use Rattle.line_forms.specs.Lines.{line}
use Rattle.venue_ports.specs.Causes.{Rose}
use Rattle.venue_ports.specs.Files.{StoredFile}
use Rattle.venue_service.specs.Venues.{SeenVenue as Venue}
use Rattle.venue_service.specs.Ends.{Measured}
use Rattle.venue_service.specs.declared.service.Counts.{Counts}
use Rattle.venue_service.specs.Desks.{raised}
use Rattle.venue_service.specs.Openings.{opening_history}
use Rattle.venue_service.specs.Records.{Logged}
use Rattle.venue_service.specs.Services.{AreCounts, HallTerms}
use Rattle.venue_commands.specs.declared.status.Status.{Status}
use Rattle.venue_commands.specs.declared.status.Status.TheVariants.{Done, Fault, Memory}
use Rattle.venue_commands.specs.Checked.{HasVenue}
use Rattle.venue_commands.specs.Commands.{Serve, Asks}
use Rattle.venue_commands.specs.Runs.{Run, Wrote, IsUnread}
use Rattle.venue_commands.specs.Served.{console_of}
use Rattle.venue_program.specs.Doors.{DoorsRun, AreBoundAt, NobodyCame}

abbrev pub door_fault : List ℕ
door_fault = line (codes "fault doors")

abbrev pub listening_line : List ℕ → List ℕ
listening_line address = line (codes "listening " ++ address)

abbrev pub closing_line : Counts → List ℕ
closing_line counts =
    codes "workers " ++ (decimal counts.workers ++ (codes " sessions " ++ (decimal counts.sessions
    ++ (codes " versions " ++ (decimal counts.versions ++ (codes " changes " ++ (decimal counts.changes ++ codes "\n")))))))

-- all that a service prints
abbrev pub service_text : List ℕ → Counts → List ℕ
service_text address counts = listening_line address ++ closing_line counts

-- the text was written, and the console didn't fail
pub record IsTold (console : Measured) (text : List ℕ) : Type 0 where
  pub wrote : Wrote console.written_before console.written_after text
  pub faultless : console.faults_after ≡ console.faults_before

-- a front of the text was written, and the console failed
pub record IsToldInPart (console : Measured) (text : List ℕ) : Type 0 where
  pub front : List ℕ
  pub rest : List ℕ
  pub whole : text ≡ front ++ rest
  pub wrote : Wrote console.written_before console.written_after front
  pub cause : Rose console.faults_before console.faults_after

-- the hall is the venue's: its history begins with the venue's publication, by worker 0, its folders are below the base, and its staff has
-- the keys of the venue's settings
pub record AreTerms (base : List ℕ) (venue : Venue) (workers connections : ℕ) (terms : HallTerms) : Type 0 where
  pub shared : Arc Venue Global
  pub publishes : arc_value shared ≡ venue
  pub opening : terms.opening ≡ opening_history shared
  pub base_is : terms.base ≡ base
  pub keys : terms.keys ≡ venue.settings.staff_keys
  pub workers_are : terms.workers ≡ workers
  pub connections_are : terms.connections ≡ connections

-- so many connections were accepted as are counted, and an accept failed where it is said; the records are those of the hall's log at its close, where it keeps any
pub record WereServed (terms : HallTerms) (records : Option (List Logged)) (doors : DoorsRun) (counts : Counts) : Type 0 where
  pub counts_are : AreCounts terms.workers terms.connections terms.opening records counts
  pub accepted : doors.accepted_now ≡ raised counts.sessions doors.accepted
  pub sound : counts.failed ≡ false → doors.faults_now ≡ doors.faults
  pub failed : counts.failed ≡ true → Rose doors.faults doors.faults_now

-- how a service ends: the bind fails; the address is told, and the console fails over it, or memory runs out; or connections are
-- served, and the closing line tells of them, but where the console fails over it or memory runs out
pub data IsServiceEnd (address : List ℕ) (terms : HallTerms) (records : Option (List Logged)) (console : Measured) (doors : DoorsRun) : Status → Type 0 where
  unbound : doors.accepted_now ≡ doors.accepted → Rose doors.faults doors.faults_now → IsTold console door_fault ⊎ IsToldInPart console door_fault
      → IsServiceEnd address terms records console doors Fault
  unheard : NobodyCame doors → IsToldInPart console (listening_line address) → IsServiceEnd address terms records console doors Fault
  unserved : NobodyCame doors → IsTold console (listening_line address) → IsServiceEnd address terms records console doors Memory
  served : (counts : Counts) → WereServed terms records doors counts → counts.failed ≡ false → IsTold console (service_text address counts)
      → IsServiceEnd address terms records console doors Done
  failing : (counts : Counts) → WereServed terms records doors counts → counts.failed ≡ true → IsTold console (service_text address counts)
      → IsServiceEnd address terms records console doors Fault
  cut_short : (counts : Counts) → WereServed terms records doors counts → IsToldInPart console (service_text address counts)
      → IsServiceEnd address terms records console doors Fault
  untold : (counts : Counts) → WereServed terms records doors counts → IsTold console (listening_line address)
      → IsServiceEnd address terms records console doors Memory

-- the words ask for a service, the folder makes a venue, the hall is that venue's, and the doors were bound once, at the address
pub record Service (words : List (List ℕ)) (files : Option (List StoredFile)) (run : Run) (doors : DoorsRun) (status : Status) : Type 0 where
  pub base : List ℕ
  pub folder : List ℕ
  pub address : List ℕ
  pub workers : ℕ
  pub connections : ℕ
  pub asks : Asks words (Serve base folder address workers connections None)
  pub venue : Venue
  pub made : IfSome files (λ fs. HasVenue fs base folder venue)
  pub terms : HallTerms
  pub terms_are : AreTerms base venue workers connections terms
  pub unread : IsUnread run
  pub bound : AreBoundAt address doors
  pub ends : IsServiceEnd address terms None (console_of run) doors status
