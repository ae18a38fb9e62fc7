-- A folder that is written in its fixed form, and what its rows keep.
use Rattle.std.specs.Prelude.{List, [], ◌∷◌, Option, Some, None, All}
use Rattle.exact_json.specs.Json.{Json}
use Rattle.venue_types.specs.declared.features.Features.{Features}
use Rattle.venue_types.specs.declared.files.Files.{Files}
use Rattle.venue_types.specs.declared.finding.Finding.{Finding}
use Rattle.imdf_read.specs.Sound.{AreSound}
use Rattle.imdf_schema.specs.Contents.{IsLarge}
use Rattle.imdf_write.specs.Folder.{collection, canonical}
use Rattle.imdf_read.specs.Broken.{IsBroken}
use Rattle.writing_law.specs.Fit.{FitsPlain, FitsAmenity, FitsAnchor, FitsBuilding, FitsDetail, FitsFixture, FitsFootprint, FitsKiosk, FitsLevel, FitsOccupant, FitsOpening, FitsRelationship, FitsUnit, FitsVenue}

-- what the rows keep
pub record FitsFeatures (features : Features) : Type 0 where
  pub addresses : All FitsPlain features.addresses
  pub amenities : All FitsAmenity features.amenities
  pub anchors : All FitsAnchor features.anchors
  pub buildings : All FitsBuilding features.buildings
  pub details : All FitsDetail features.details
  pub fixtures : All FitsFixture features.fixtures
  pub footprints : All FitsFootprint features.footprints
  pub geofences : All FitsPlain features.geofences
  pub kiosks : All FitsKiosk features.kiosks
  pub levels : All FitsLevel features.levels
  pub occupants : All FitsOccupant features.occupants
  pub openings : All FitsOpening features.openings
  pub relationships : All FitsRelationship features.relationships
  pub sections : All FitsPlain features.sections
  pub units : All FitsUnit features.units
  pub venues : All FitsVenue features.venues
  pub sound : AreSound features

-- the files of the fixed form
abbrev pub written : Features → Files
written features = record { slots = canonical features }

-- no file of the fixed form has more bytes than are read
abbrev pub IsWithinLimit : Features → Type 0
IsWithinLimit features = All (λ slot. ¬ IsLarge slot) (canonical features)

-- the value of a file of these features, none where there are none
abbrev pub content_of : List Json → Option Json
content_of [] = None
content_of (v ∷ vs) = Some (collection (v ∷ vs))

-- the first phase finds nothing in the files
abbrev pub FindsNothing : Files → Type 0
FindsNothing files = (x : Finding) → ¬ IsBroken files x
