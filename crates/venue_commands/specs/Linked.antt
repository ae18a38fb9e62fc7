-- What `links BASE FOLDER PROFILE` prints.
use Rattle.std.specs.Prelude.{◌≡◌, ℕ, List, Option, Some, None, codes}
use Rattle.std.specs.List.{find}
use Rattle.std.specs.Str.{bytes_eq}
use Rattle.venue_types.specs.declared.settings.Profile.{Profile}
use Rattle.venue_types.specs.declared.settings.Settings.{Settings}
use Rattle.venue_ports.specs.Files.{StoredFile}
use Rattle.line_forms.specs.Lines.{line}
use Rattle.route_certificate.specs.Forms.{table_text, FitsTable}
use Rattle.venue_session.specs.Venues.{SeenVenue as Venue}
use Rattle.route_answers.specs.Tables.{table_of}
use Rattle.venue_commands.specs.declared.status.Status.{Status}
use Rattle.venue_commands.specs.declared.status.Status.TheVariants.{Done, Wrong}
use Rattle.venue_commands.specs.Checked.{NoVenue, HasVenue}

-- the profile of the settings that has this name, byte for byte
abbrev pub profile_named : Settings → List ℕ → Option Profile
profile_named settings name = find (λ (profile : Profile). bytes_eq profile.name name) settings.profiles

-- `links BASE FOLDER PROFILE`: the folder is judged before the profile is looked up, and a table that is printed is within the ranges of its form
pub data LinksOutput (files : List StoredFile) (base folder name : List ℕ) : List ℕ → Status → Type 0 where
  no_venue : {text : List ℕ} {status : Status} → NoVenue files base folder text status → LinksOutput files base folder name text status
  no_profile : (venue : Venue) → HasVenue files base folder venue → profile_named venue.settings name ≡ None
      → LinksOutput files base folder name (line (codes "profile")) Wrong
  linked : (venue : Venue) (profile : Profile) → HasVenue files base folder venue → profile_named venue.settings name ≡ Some profile
      → FitsTable (table_of venue.features venue.settings profile) → LinksOutput files base folder name (table_text (table_of venue.features venue.settings profile)) Done
