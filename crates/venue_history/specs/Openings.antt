-- How a history opens, and under which settings.
use Rattle.std.specs.Prelude.{◌≡◌, List, [], ◌∷◌, Contains}
use Rattle.std.specs.declared.alloc.Global.{Global}
use Rattle.std.specs.declared.sync.Arc.{Arc}
use Rattle.venue_types.specs.declared.settings.Settings.{Settings}
use Rattle.venue_build.specs.Venues.{SeenVenue as Venue}
use Rattle.venue_history.specs.declared.entry.Act.TheVariants.{Published}
use Rattle.venue_history.specs.declared.entry.Entry.{Entry}
use Rattle.venue_history.specs.Histories.{IsPublished}

-- the history that a venue opens: its publication, by worker 0
abbrev pub opening_history : Arc Venue Global → List Entry
opening_history venue = record { worker = 0; act = Published venue } ∷ []

-- each venue that these entries publish has these settings
abbrev pub HaveSettings : Settings → List Entry → Type 0
HaveSettings settings entries = (e : Entry) (venue : Venue) → Contains entries e → IsPublished venue e.act → venue.settings ≡ settings
