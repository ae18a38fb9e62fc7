-- A record that is judged behind a history: the code's own machinery, which no public contract cites.
use Rattle.std.specs.Prelude.{◌≡◌, List, [], ◌∷◌, ◌++◌, Option, Some, None, IfSome}
use Rattle.std.specs.Arc.{arc_value}
use Rattle.std.specs.declared.alloc.Global.{Global}
use Rattle.std.specs.declared.sync.Arc.{Arc}
use Rattle.venue_types.specs.declared.files.Files.{Files}
use Rattle.venue_types.specs.declared.settings.Settings.{Settings}
use Rattle.venue_hall.specs.Built.{IsVenueOf}
use Rattle.venue_hall.specs.Entry.{Entry}
use Rattle.venue_hall.specs.Histories.{IsLegal}
use Rattle.venue_hall.specs.Records.{Logged}
use Rattle.venue_hall.specs.Standing.{StandsFor}
use Rattle.venue_hall.specs.Venues.{SeenVenue as Venue}
use Rattle.board_copies.specs.declared.resuming.Resuming.{Resuming}
use Rattle.board_copies.specs.Stamps.{entries_of}

-- the entries of a history, or none
abbrev pub history_entries : Option Resuming → List Entry
history_entries None = []
history_entries (Some resuming) = entries_of resuming.stamp

-- the history is none, or one under these settings
abbrev pub HasSettings : Settings → Option Resuming → Type 0
HasSettings settings history = IfSome history (λ r. r.version.settings ≡ settings)

-- the files make this venue under these settings, or none
abbrev pub Makes : Files → Settings → Option (Arc Venue Global) → Type 0
Makes files settings None = (venue : Venue) → IsVenueOf files settings venue → ⊥
Makes files settings (Some venue) = IsVenueOf files settings (arc_value venue)

-- the new entries are the old ones with one more, for which the record stands
pub record Grows (settings : Settings) (kept : Logged) (old new : List Entry) : Type 0 where
  pub entry : Entry
  pub stands : StandsFor settings kept entry
  pub grown : new ≡ old ++ entry ∷ []

-- with no entry for which the record stands do these make a legal history
abbrev pub MayNotFollow : Settings → Logged → List Entry → Type 0
MayNotFollow settings kept entries = (entry : Entry) → StandsFor settings kept entry → IsLegal (entries ++ entry ∷ []) → ⊥

-- the history with the record's entry more, or none where that may not follow
abbrev pub IsJudged : Settings → Logged → List Entry → Option Resuming → Type 0
IsJudged settings kept entries None = MayNotFollow settings kept entries
IsJudged settings kept entries (Some r) = Grows settings kept entries (entries_of r.stamp) × (r.version.settings ≡ settings)
