-- Histories: lists of entries, the version to which one leads, and which of them are legal.
use Rattle.std.specs.Prelude.{◌≡◌, List, [], ◌∷◌, Option, Some, None}
use Rattle.std.specs.Arc.{arc_value}
use Rattle.venue_build.specs.Venues.{SeenVenue as Venue}
use Rattle.venue_build.specs.Report.{AreValid}
use Rattle.venue_history.specs.declared.entry.Act.{Act}
use Rattle.venue_history.specs.declared.entry.Act.TheVariants.{Published, Closed, Reopened}
use Rattle.venue_history.specs.declared.entry.Entry.{Entry}
use Rattle.venue_history.specs.Closed.{Version}
use Rattle.venue_history.specs.Versions.{opening, after, MayFollow}

-- the version after these entries
abbrev pub after_all : Version → List Entry → Version
after_all v [] = v
after_all v (e ∷ es) = after_all (after v e.act) es

-- each of these entries may be made at the version after those before it
abbrev pub MayAllFollow : Version → List Entry → Type 0
MayAllFollow v [] = Unit {0}
MayAllFollow v (e ∷ es) = MayFollow v e × MayAllFollow (after v e.act) es

-- the version with which a venue opens a history
abbrev pub opening_of : Venue → Version
opening_of venue = opening venue.features venue.settings

-- the version after a first act and these entries, if that act is a publication
abbrev pub replay_from : Act → List Entry → Option Version
replay_from (Published venue) es = Some (after_all (opening_of (arc_value venue)) es)
replay_from (Closed it) es = None
replay_from (Reopened it) es = None

-- the version to which a history leads, if it begins with a publication
abbrev pub replay : List Entry → Option Version
replay [] = None
replay (e ∷ es) = replay_from e.act es

-- the first act is a publication of rows that every phase accepts, and each of these entries may follow
abbrev pub IsLegalFrom : Act → List Entry → Type 0
IsLegalFrom (Published venue) es = AreValid (arc_value venue).features (arc_value venue).settings × MayAllFollow (opening_of (arc_value venue)) es
IsLegalFrom (Closed it) es = ⊥
IsLegalFrom (Reopened it) es = ⊥

-- the act publishes this venue
abbrev pub IsPublished : Venue → Act → Type 0
IsPublished venue (Published it) = arc_value it ≡ venue
IsPublished venue (Closed it) = ⊥
IsPublished venue (Reopened it) = ⊥

-- worker 0 publishes first, and each further entry may be made at the version after those before it
abbrev pub KeepsTheRules : List Entry → Type 0
KeepsTheRules [] = ⊥
KeepsTheRules (e ∷ es) = (e.worker ≡ 0) × IsLegalFrom e.act es

-- the history is a legal one, as a fact that a type can keep
abbrev pub IsLegal : List Entry → Type 0
IsLegal entries = ∥ KeepsTheRules entries ∥₁

-- the history is a legal one, and leads to this version
pub record Replays (entries : List Entry) (v : Version) : Type 0 where
  pub leads : replay entries ≡ Some v
  pub legal : IsLegal entries
