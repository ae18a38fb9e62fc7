-- What a venue is seen as.
use Rattle.std.specs.Prelude.{List}
use Rattle.venue_types.specs.declared.features.Features.{Features}
use Rattle.venue_types.specs.declared.finding.Note.{Note}
use Rattle.venue_types.specs.declared.settings.Settings.{Settings}

-- its rows, the settings under which it was judged, and what is worth a note in it
pub record SeenVenue : Type 0 where
  pub features : Features
  pub settings : Settings
  pub notes : List Note
