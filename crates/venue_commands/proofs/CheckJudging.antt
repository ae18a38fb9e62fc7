-- From the venue of a folder to what `check` and `links` print.
use Rattle.std.proofs.Common.{◌≡◌, ℕ, List, Option, Some, None, Result, Ok, Err, refl, subst, codes}
use Rattle.std.specs.Prelude.{IfOk, IfSome}
use Rattle.venue_types.specs.declared.settings.Profile.{Profile}
use Rattle.line_forms.specs.Lines.{line}
use Rattle.feature_rows.specs.Rows.{feature_count}
use Rattle.route_certificate.specs.Forms.{table_text}
use Rattle.route_answers.specs.Tables.{table_of}
use Rattle.venue_session.specs.Venues.{SeenVenue as Venue}
use Rattle.check_text.specs.Text.{accepted_text}
use Rattle.venue_ports.specs.Files.{StoredFile}
use Rattle.venue_ports.specs.declared.folders.ReadFault.{ReadFault}
use Rattle.venue_commands.specs.declared.printout.Printout.{Printout}
use Rattle.venue_commands.specs.declared.base_venue.Made.{Made}
use Rattle.venue_commands.specs.declared.base_venue.Made.TheVariants as made
use Rattle.venue_commands.specs.declared.status.Status.TheVariants.{Done, Wrong}
use Rattle.venue_commands.specs.Steps.{IsMade, IsLinkedFor, IsLinked}
use Rattle.venue_commands.specs.Checked.{NoVenue, HasVenue, CheckOutput, no_venue, accepted}
use Rattle.venue_commands.specs.Linked.{profile_named, LinksOutput, no_venue as no_links, no_profile, linked}
use Rattle.venue_commands.proofs.VenueMaking.{printed_as}

-- there is no venue, and this answer was given
pub stopped_as : (fs : List StoredFile) (base folder : List ℕ) (m : Made) (answer : Printout) → IsMade fs base folder m → m ≡ made.Stopped answer → NoVenue fs base folder answer.text answer.status
stopped_as fs base folder m answer told is = subst (IsMade fs base folder) is told

-- there is this venue
pub venue_as : (fs : List StoredFile) (base folder : List ℕ) (m : Made) (venue : Venue) → IsMade fs base folder m → m ≡ made.Venue venue → HasVenue fs base folder venue
venue_as fs base folder m venue told is = subst (IsMade fs base folder) is told

pub check_stopped : (files : Option (List StoredFile)) (base folder : List ℕ) (m : Made) (answer : Printout) → IfSome files (λ fs. IsMade fs base folder m) → m ≡ made.Stopped answer
    → IfSome files (λ fs. CheckOutput fs base folder answer.text answer.status)
check_stopped None base folder m answer told is = tt
check_stopped (Some fs) base folder m answer told is = no_venue (stopped_as fs base folder m answer told is)

pub check_accepted : (files : Option (List StoredFile)) (base folder : List ℕ) (m : Made) (venue : Venue) (r : Result Printout ReadFault) → IfSome files (λ fs. IsMade fs base folder m)
    → m ≡ made.Venue venue → IfOk r (λ a. a.text ≡ accepted_text (feature_count venue.features) venue.notes) → IfOk r (λ a. a.status ≡ Done)
    → IfOk r (λ a. IfSome files (λ fs. CheckOutput fs base folder a.text a.status))
check_accepted files base folder m venue (Err e) told is printed done = tt
check_accepted None base folder m venue (Ok a) told is printed done = tt
check_accepted (Some fs) base folder m venue (Ok a) told is printed done =
    printed_as (CheckOutput fs base folder) (accepted_text (feature_count venue.features) venue.notes) Done a printed done (accepted venue (venue_as fs base folder m venue told is))

pub links_stopped : (files : Option (List StoredFile)) (base folder name : List ℕ) (m : Made) (answer : Printout) → IfSome files (λ fs. IsMade fs base folder m) → m ≡ made.Stopped answer
    → IfSome files (λ fs. LinksOutput fs base folder name answer.text answer.status)
links_stopped None base folder name m answer told is = tt
links_stopped (Some fs) base folder name m answer told is = no_links (stopped_as fs base folder m answer told is)

-- what is printed for the profile that was found, or for none
linked_for : (fs : List StoredFile) (base folder name : List ℕ) (venue : Venue) (answer : Printout) (found : Option Profile) → HasVenue fs base folder venue → profile_named venue.settings name ≡ found
    → IsLinkedFor venue answer found
    → LinksOutput fs base folder name answer.text answer.status
linked_for fs base folder name venue answer None has is printed =
    printed_as (LinksOutput fs base folder name) (line (codes "profile")) Wrong answer printed.0 printed.1 (no_profile venue has is)
linked_for fs base folder name venue answer (Some profile) has is printed =
    printed_as (LinksOutput fs base folder name) (table_text (table_of venue.features venue.settings profile)) Done answer printed.0 printed.1 (linked venue profile has is printed.2)

pub is_linked : (files : Option (List StoredFile)) (base folder name : List ℕ) (m : Made) (venue : Venue) (r : Result Printout ReadFault) → IfSome files (λ fs. IsMade fs base folder m)
    → m ≡ made.Venue venue → IfOk r (IsLinked venue name) → IfOk r (λ a. IfSome files (λ fs. LinksOutput fs base folder name a.text a.status))
is_linked files base folder name m venue (Err e) told is printed = tt
is_linked None base folder name m venue (Ok a) told is printed = tt
is_linked (Some fs) base folder name m venue (Ok a) told is printed =
    linked_for fs base folder name venue a (profile_named venue.settings name) (venue_as fs base folder m venue told is) refl printed
