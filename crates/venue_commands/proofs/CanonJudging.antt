-- From the venue of a folder to what `canon` prints.
use Rattle.std.proofs.Common.{◌≡◌, ℕ, List, Option, Some, None, Result, Ok, Err}
use Rattle.std.specs.Prelude.{IfOk, IfSome}
use Rattle.venue_types.specs.declared.folder_file.File.{File}
use Rattle.venue_session.specs.Venues.{SeenVenue as Venue}
use Rattle.venue_ports.specs.Files.{StoredFile}
use Rattle.venue_ports.specs.declared.folders.ReadFault.{ReadFault}
use Rattle.venue_commands.specs.declared.printout.Printout.{Printout}
use Rattle.venue_commands.specs.declared.base_venue.Made.{Made}
use Rattle.venue_commands.specs.declared.base_venue.Made.TheVariants as made
use Rattle.venue_commands.specs.declared.status.Status.TheVariants.{Done}
use Rattle.venue_commands.specs.Steps.{IsMade}
use Rattle.venue_commands.specs.Written.{CanonOutput, no_venue, written, written_text}
use Rattle.venue_commands.proofs.CheckJudging.{stopped_as, venue_as}
use Rattle.venue_commands.proofs.VenueMaking.{printed_as}

pub canon_stopped : (files : Option (List StoredFile)) (base folder : List ℕ) (file : File) (m : Made) (answer : Printout) → IfSome files (λ fs. IsMade fs base folder m) → m ≡ made.Stopped answer
    → IfSome files (λ fs. CanonOutput fs base folder file answer.text answer.status)
canon_stopped None base folder file m answer told is = tt
canon_stopped (Some fs) base folder file m answer told is = no_venue (stopped_as fs base folder m answer told is)

pub canon_written : (files : Option (List StoredFile)) (base folder : List ℕ) (file : File) (m : Made) (venue : Venue) (r : Result Printout ReadFault) → IfSome files (λ fs. IsMade fs base folder m)
    → m ≡ made.Venue venue → IfOk r (λ a. a.text ≡ written_text venue file) → IfOk r (λ a. a.status ≡ Done)
    → IfOk r (λ a. IfSome files (λ fs. CanonOutput fs base folder file a.text a.status))
canon_written files base folder file m venue (Err e) told is printed done = tt
canon_written None base folder file m venue (Ok a) told is printed done = tt
canon_written (Some fs) base folder file m venue (Ok a) told is printed done =
    printed_as (CanonOutput fs base folder file) (written_text venue file) Done a printed done (written venue (venue_as fs base folder m venue told is))
