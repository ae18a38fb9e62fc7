-- Files that were read at one history and are judged beside it, while the history goes on.
use Rattle.std.specs.Prelude.{◌≡◌, ◌≤◌, List}
use Rattle.std.specs.declared.alloc.Global.{Global}
use Rattle.std.specs.declared.sync.Arc.{Arc}
use Rattle.std.specs.Arc.{arc_value}
use mathlib.Core.List.{IsPrefix}
use Rattle.venue_types.specs.declared.files.Files.{Files}
use Rattle.venue_types.specs.declared.settings.Settings.{Settings}
use Rattle.venue_ports.specs.Causes.{Rose}
use Rattle.venue_hall.specs.Built.{IsVenueOf}
use Rattle.venue_hall.specs.Closed.{Version}
use Rattle.venue_hall.specs.Entry.{Entry}
use Rattle.venue_hall.specs.Facts.{Facts, IsSameHall}
use Rattle.venue_hall.specs.Histories.{IsLegal, Replays}
use Rattle.venue_hall.specs.Venues.{SeenVenue as Venue}

-- these are the settings of the version to which the entries lead
abbrev pub AreSettingsOf : List Entry → Settings → Type 0
AreSettingsOf h settings = (v : Version) → Replays h v → v.settings ≡ settings

-- the files make this venue under the settings of the version to which the entries lead
abbrev pub IsJudgedAt : List Entry → Files → Arc Venue Global → Type 0
IsJudgedAt h files venue = (v : Version) → Replays h v → IsVenueOf files v.settings (arc_value venue)

-- behind a look: what was seen before still stands in front, in a legal history of the same hall; no count fell, and that of looks rose
pub record HasLooked (old new : Facts) : Type 0 where
  pub grows : IsPrefix old.seen new.seen
  pub legal : IsLegal new.seen
  pub faults : old.faults ≤ new.faults
  pub looks : Rose old.looks new.looks
  pub same : IsSameHall old new
