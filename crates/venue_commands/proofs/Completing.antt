-- What no stop stops is served.
use Rattle.std.proofs.Common.{◌≡◌, ◌⊎◌, ℕ, List, Option, Some, None, refl, inl, inr}
use Rattle.venue_session.specs.Venues.{SeenVenue as Venue}
use Rattle.venue_ports.specs.Causes.{Rose}
use Rattle.venue_ports.specs.Files.{StoredFile}
use Rattle.venue_session.specs.declared.ends.End.{End}
use Rattle.venue_commands.specs.declared.status.Status.{Status}
use Rattle.venue_commands.specs.declared.status.Status.TheVariants.{Done, Negative, Wrong, Fault, Memory}
use Rattle.venue_commands.specs.Checked.{HasVenue}
use Rattle.venue_commands.specs.Commands.{Session, IsAsked, words_of}
use Rattle.venue_commands.specs.Complete.{IsServedOut}
use Rattle.venue_commands.specs.Ends.{Printed, Ends}
use Rattle.venue_commands.specs.Runs.{Run}
use Rattle.venue_commands.specs.Served.{Served}
use Rattle.venue_commands.proofs.Headlining.{stops_of}
use Rattle.venue_commands.proofs.OneText.{NotBoth, not_both}

never_printed : NotBoth → (words : List (List ℕ)) (base folder : List ℕ) (files : List StoredFile) (venue : Venue) (run : Run) (status : Status)
    → IsAsked (Session base folder None) → words ≡ words_of (Session base folder None) → HasVenue files base folder venue → Printed words (Some files) run status → ⊥
never_printed law words base folder files venue run status form is has printed =
    not_both law files base folder printed.text status venue (stops_of words files base folder printed.text status form is printed.output) has

-- a session that ends by a fault of its link saw the count rise
pub fault_rose : (words : List (List ℕ)) (files : Option (List StoredFile)) (run : Run) (end : End) (s : Served words files run Fault) → s.end ≡ end → Rose run.console run.console_now
fault_rose words files run End.LinkFault s is = let ended = rw is at s.session.ended in ended.0
fault_rose words files run End.Done s is = absurd cc
fault_rose words files run (End.Cut count) s is = absurd cc
fault_rose words files run (End.Refused status) s is = absurd cc
fault_rose words files run End.Worn s is = absurd cc
fault_rose words files run End.OutOfMemory s is = absurd cc

pub served_out : NotBoth → (words : List (List ℕ)) (base folder : List ℕ) (files : List StoredFile) (venue : Venue) (run : Run) (status : Status)
    → IsAsked (Session base folder None) → words ≡ words_of (Session base folder None) → HasVenue files base folder venue
    → (Rose run.console run.console_now → ⊥) → (Rose run.folders run.folders_now → ⊥)
    → Ends words (Some files) run status → IsServedOut words (Some files) run status
served_out law words base folder files venue run Done form is has console folders (inl printed) = absurd (never_printed law words base folder files venue run Done form is has printed)
served_out law words base folder files venue run Done form is has console folders (inr served) = inl (served, inl refl)
served_out law words base folder files venue run Negative form is has console folders (inl printed) = absurd (never_printed law words base folder files venue run Negative form is has printed)
served_out law words base folder files venue run Negative form is has console folders (inr served) = inl (served, inr refl)
served_out law words base folder files venue run Wrong form is has console folders printed = absurd (never_printed law words base folder files venue run Wrong form is has printed)
served_out law words base folder files venue run Fault form is has console folders (inl cut) = absurd (console cut.cause)
served_out law words base folder files venue run Fault form is has console folders (inr (inl failed)) = absurd (folders failed.cause)
served_out law words base folder files venue run Fault form is has console folders (inr (inr served)) = absurd (console (fault_rose words (Some files) run served.end served refl))
served_out law words base folder files venue run Memory form is has console folders ends = inr refl
