-- From the settings and the files of a folder to what a session or a service of it comes to.
use Rattle.std.proofs.Common.{◌≡◌, ◌∙◌, ℕ, List, Option, Some, None, Result, Ok, Err, sym, subst, ap, length}
use Rattle.std.specs.Prelude.{IfOk, IfSome, String, string_bytes}
use Rattle.std.specs.Arc.{arc_value}
use Rattle.std.specs.declared.alloc.Global.{Global}
use Rattle.venue_session.specs.Venues.{SeenVenue as Venue}
use Rattle.venue_session.specs.Built.{IsVenueOf}
use Rattle.venue_types.specs.declared.files.Files.{Files}
use Rattle.venue_types.specs.declared.settings.Settings.{Settings}
use Rattle.venue_ports.specs.Files.{StoredFile, file_at}
use Rattle.venue_ports.specs.declared.folders.ReadFault.{ReadFault}
use Rattle.venue_folder.specs.Shelves.{folder_path, folder_files}
use Rattle.venue_commands.specs.declared.printout.Printout.{Printout}
use Rattle.venue_commands.specs.declared.base_venue.Made.{Made}
use Rattle.venue_commands.specs.declared.base_venue.Made.TheVariants as made
use Rattle.venue_commands.specs.declared.start.Start.{Start}
use Rattle.venue_commands.specs.declared.reached.Reached.{Reached}
use Rattle.venue_commands.specs.declared.reached.Reached.TheVariants as reached
use Rattle.venue_commands.specs.Checked.{HasVenue, settings_name}
use Rattle.venue_commands.specs.Commands.{Session, Asks}
use Rattle.venue_commands.specs.Openings.{IsFolderReached, IsMadeStart, IsOpenedUnder}
use Rattle.venue_commands.specs.Output.{Output, stops_session}
use Rattle.venue_commands.specs.Steps.{IsMade, IsMadeOf, IsSettled}
use Rattle.venue_commands.proofs.VenueMaking.{made_under}

-- the folder is rejected, and this is printed
pub opened_stopped : (files : Option (List StoredFile)) (base folder : List ℕ) (settings : Settings) (held : Files) (m : Made) (answer : Printout)
    → IfSome files (λ fs. held ≡ folder_files fs (folder_path base folder)) → IsMadeOf held settings m → m ≡ made.Stopped answer
    → IsOpenedUnder files base folder settings (reached.Printed answer)
opened_stopped None base folder settings held m answer read of is = tt
opened_stopped (Some fs) base folder settings held m answer read of is = subst (λ (h : Files). IsMadeOf h settings (made.Stopped answer)) read (subst (IsMadeOf held settings) is of)

venue_made : (files : Option (List StoredFile)) (base folder : List ℕ) (settings : Settings) (held : Files) (m : Made) (venue opened : Venue)
    → IfSome files (λ fs. held ≡ folder_files fs (folder_path base folder)) → IsMadeOf held settings m → m ≡ made.Venue venue → opened ≡ venue
    → IfSome files (λ fs. IsVenueOf (folder_files fs (folder_path base folder)) settings opened)
venue_made None base folder settings held m venue opened read of is same = tt
venue_made (Some fs) base folder settings held m venue opened read of is same =
    let made_here : IsVenueOf held settings venue = subst (IsMadeOf held settings) is of in
    subst (λ (v : Venue). IsVenueOf (folder_files fs (folder_path base folder)) settings v) (sym same) (subst (λ (h : Files). IsVenueOf h settings venue) read made_here)

files_kept : (files : Option (List StoredFile)) (path : List ℕ) (held kept : Files) → IfSome files (λ fs. held ≡ folder_files fs path) → kept ≡ held
    → IfSome files (λ fs. kept ≡ folder_files fs path)
files_kept None path held kept read same = tt
files_kept (Some fs) path held kept read same = same ∙ read

-- it makes this venue, and a hall is opened with it
pub opened_under : (files : Option (List StoredFile)) (base folder : List ℕ) (settings : Settings) (held : Files) (m : Made) (venue : Venue) (opening : Start)
    → IfSome files (λ fs. held ≡ folder_files fs (folder_path base folder)) → IsMadeOf held settings m → m ≡ made.Venue venue
    → opening.base ≡ base → opening.files ≡ held → arc_value opening.venue ≡ venue → IsOpenedUnder files base folder settings (reached.Opened opening)
opened_under files base folder settings held m venue opening read of is based kept same =
    (based, venue_made files base folder settings held m venue (arc_value opening.venue) read of is same, files_kept files (folder_path base folder) held opening.files read kept)

-- the settings of the base stop it
pub settings_stopped : (files : Option (List StoredFile)) (base folder : List ℕ) (answer : Printout) → IfSome files (λ fs. IsMade fs base folder (made.Stopped answer))
    → IsFolderReached files base folder (reached.Printed answer)
settings_stopped files base folder answer stops = stops

-- what the folder comes to under the settings that its base has
reached_under : (files : Option (List StoredFile)) (base folder : List ℕ) (settings : Settings) (r : Reached) → IfSome files (λ fs. IsSettled (file_at fs base settings_name) (Ok settings))
    → IsOpenedUnder files base folder settings r → IsFolderReached files base folder r
reached_under None base folder settings (reached.Printed answer) reads of = tt
reached_under (Some fs) base folder settings (reached.Printed answer) reads of = made_under fs base folder settings (made.Stopped answer) reads of
reached_under None base folder settings (reached.Opened opening) reads of = record { base_is = of.0; made = tt; files_are = tt }
reached_under (Some fs) base folder settings (reached.Opened opening) reads of =
    let has : HasVenue fs base folder (arc_value opening.venue) = made_under fs base folder settings (made.Venue (arc_value opening.venue)) reads of.1 in
    record { base_is = of.0; made = has; files_are = of.2 }

pub folder_reached : (files files' : Option (List StoredFile)) (base folder : List ℕ) (settled : Result Settings (String Global)) (settings : Settings) (r : Result Reached ReadFault)
    → files' ≡ files → IfSome files (λ fs. IsSettled (file_at fs base settings_name) settled) → settled ≡ Ok settings
    → IfOk r (IsOpenedUnder files' base folder settings) → IfOk r (IsFolderReached files base folder)
folder_reached files files' base folder settled settings (Err e) same told is of = tt
folder_reached files files' base folder settled settings (Ok r) same told is of =
    let here : IsOpenedUnder files base folder settings r = subst (λ (o : Option (List StoredFile)). IsOpenedUnder o base folder settings r) same of in
    reached_under files base folder settings r (subst (λ (s : Result Settings (String Global)). IfSome files (λ fs. IsSettled (file_at fs base settings_name) s)) is told) here

-- words that ask for a session, of which this was printed
pub session_printed : (words : List (List ℕ)) (files : Option (List StoredFile)) (base folder : List ℕ) (answer : Printout) → Asks words (Session base folder None)
    → IsFolderReached files base folder (reached.Printed answer) → IfSome files (λ fs. Output words fs answer.text answer.status)
session_printed words None base folder answer asks stops = tt
session_printed words (Some fs) base folder answer asks stops = stops_session base folder asks.form asks.spelled stops

-- what a hall is opened with was made under the settings
pub made_start : (settings : Settings) (held : Files) (m : Made) (venue : Venue) (opening : Start) → length held.slots ≡ 17 → IsMadeOf held settings m → m ≡ made.Venue venue
    → opening.files ≡ held → arc_value opening.venue ≡ venue → arc_value opening.settings ≡ venue.settings → IsMadeStart settings opening
made_start settings held m venue opening seventeen of is kept same under =
    let here : IsVenueOf held settings venue = subst (IsMadeOf held settings) is of in
    record {
      settings_are = under ∙ here.settings_given;
      seventeen = ap (λ (f : Files). length f.slots) kept ∙ seventeen;
      made = subst (λ (f : Files). IsVenueOf f settings (arc_value opening.venue)) (sym kept) (subst (λ (v : Venue). IsVenueOf held settings v) (sym same) here);
    }
