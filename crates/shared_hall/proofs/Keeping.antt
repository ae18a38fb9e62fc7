-- What is kept of a change that is ready.
use Rattle.std.proofs.Common.{◌≡◌, ℕ, List, [], ◌∷◌, Option, Some, None, refl, sym, subst, Global}
use Rattle.std.proofs.lemmas.List.Elements.{Contains-push}
use Rattle.std.specs.Arc.{arc_value}
use Rattle.std.specs.declared.sync.Arc.{Arc}
use Rattle.venue_types.specs.declared.files.Files.{Files}
use Rattle.venue_types.specs.declared.query.Change.{Change}
use Rattle.venue_types.specs.declared.query.Change.TheVariants as change
use Rattle.venue_types.specs.declared.reply.Reply.{Reply}
use Rattle.venue_types.specs.declared.reply.Reply.TheVariants as reply
use Rattle.venue_types.specs.declared.settings.Settings.{Settings}
use Rattle.venue_hall.specs.Act.{Act}
use Rattle.venue_hall.specs.Act.TheVariants as act
use Rattle.venue_hall.specs.Built.{IsVenueOf}
use Rattle.venue_hall.specs.Changes.{Changes}
use Rattle.venue_hall.specs.Closed.{Version}
use Rattle.venue_hall.specs.Entry.{Entry}
use Rattle.venue_hall.specs.Histories.{IsPublished, Replays}
use Rattle.venue_hall.specs.Openings.{HaveSettings}
use Rattle.venue_hall.specs.Records.{published}
use Rattle.venue_hall.specs.Shelves.{Shelf}
use Rattle.venue_hall.specs.Standing.{StandsFor, StandsForAct}
use Rattle.venue_hall.specs.Venues.{SeenVenue as Venue}
use Rattle.board_copies.specs.Making.{Brings, IsMade, CountsFault, CountsJournalFault}
use Rattle.board_copies.proofs.Entering.{unkept}
use Rattle.shared_hall.specs.Keeping.{ComesOf, IsUnkept}

-- a publication's venue has its own settings
own_settings : (files : Files) (settings : Settings) (venue : Venue) → IsVenueOf files settings venue → IsVenueOf files venue.settings venue
own_settings files settings venue of = subst (λ (s : Settings). IsVenueOf files s venue) (sym of.settings_given) of

-- what becomes of a change tells which files were read for its act
pub comes_of : (shelf : Option Shelf) (v : Version) (asked : Change) (done : Act) (files : Option Files) → Brings shelf v asked done files → ComesOf done files
comes_of shelf v (change.Closure closure) (act.Closed it) None is = tt
comes_of shelf v (change.Closure closure) (act.Reopened it) None is = tt
comes_of shelf v (change.Closure closure) (act.Published venue) None is = absurd is
comes_of shelf v (change.Publish folder) (act.Published venue) (Some files) is = (is.0.seventeen, own_settings files v.settings (arc_value venue) is.1)
comes_of shelf v (change.Closure closure) done (Some files) is = absurd is
comes_of shelf v (change.Publish folder) (act.Closed it) files is = absurd is
comes_of shelf v (change.Publish folder) (act.Reopened it) files is = absurd is
comes_of shelf v (change.Publish folder) (act.Published venue) None is = absurd is

-- a publication's record
pub published_stands : (entry : Entry) (read : Option Files) (venue : Arc Venue Global) (files : Files) → entry.act ≡ act.Published venue → read ≡ Some files → ComesOf entry.act read
    → (settings : Settings) → HaveSettings settings (entry ∷ []) → StandsFor settings (record { worker = entry.worker; act = published files.slots }) entry
published_stands entry read venue files is there comes settings all =
    let given : ComesOf (act.Published venue) (Some files) = subst (ComesOf (act.Published venue)) there (subst (λ (a : Act). ComesOf a read) is comes) in
    let same : (arc_value venue).settings ≡ settings = all entry (arc_value venue) (Contains-push [] entry) (subst (IsPublished (arc_value venue)) (sym is) refl) in
    record {
      worker = refl;
      act = subst (StandsForAct settings (published files.slots)) (sym is) (subst (λ (s : Settings). IsVenueOf files s (arc_value venue)) same given.1);
    }

-- what isn't kept changes nothing, and tells what the log counted
pub unkept_changes : (shelf : Option Shelf) (v : Version) (worker : ℕ) (asked : Change) (h k : List Entry) (ready : _) (r s : Reply) (files : Option Files) (before now : ℕ)
    → Replays h v → IsMade shelf v worker asked ready r files → IsUnkept before now s → k ≡ h → Changes shelf worker asked h s k
unkept_changes shelf v worker asked h k ready r (reply.JournalFault earlier later) files before now stands made failed same =
    unkept shelf v worker asked h k ready r files earlier later stands made (rw (failed.0, failed.1) failed.3) same
unkept_changes shelf v worker asked h k ready r reply.OutOfMemory files before now stands made failed same = same
unkept_changes shelf v worker asked h k ready r _ files before now stands made failed same = absurd failed

pub unkept_counts : (before now : ℕ) (r : Reply) → IsUnkept before now r → CountsJournalFault before now r
unkept_counts before now (reply.JournalFault earlier later) failed = failed
unkept_counts before now reply.OutOfMemory failed = failed
unkept_counts before now _ failed = absurd failed

-- the folders told no fault then
pub unkept_folders : (before now : ℕ) (r : Reply) → IsUnkept before now r → (earlier later : ℕ) → later ≡ earlier → CountsFault earlier later r
unkept_folders before now (reply.JournalFault _ _) failed earlier later same = same
unkept_folders before now reply.OutOfMemory failed earlier later same = same
unkept_folders before now _ failed earlier later same = absurd failed
