-- The features of a folder by file and place, and their identifiers.
use Rattle.std.specs.Prelude.{◌≡◌, ℕ, List, [], map, length, sum_by, slice_get, Some}
use Rattle.venue_types.specs.declared.feature_id.FeatureId.{FeatureId}
use Rattle.venue_types.specs.declared.features.Features.{Features}
use Rattle.venue_types.specs.declared.features.AmenityRow.{AmenityRow}
use Rattle.venue_types.specs.declared.features.AnchorRow.{AnchorRow}
use Rattle.venue_types.specs.declared.features.BuildingRow.{BuildingRow}
use Rattle.venue_types.specs.declared.features.DetailRow.{DetailRow}
use Rattle.venue_types.specs.declared.features.FixtureRow.{FixtureRow}
use Rattle.venue_types.specs.declared.features.FootprintRow.{FootprintRow}
use Rattle.venue_types.specs.declared.features.KioskRow.{KioskRow}
use Rattle.venue_types.specs.declared.features.LevelRow.{LevelRow}
use Rattle.venue_types.specs.declared.features.OccupantRow.{OccupantRow}
use Rattle.venue_types.specs.declared.features.OpeningRow.{OpeningRow}
use Rattle.venue_types.specs.declared.features.PlainRow.{PlainRow}
use Rattle.venue_types.specs.declared.features.RelationshipRow.{RelationshipRow}
use Rattle.venue_types.specs.declared.features.UnitRow.{UnitRow}
use Rattle.venue_types.specs.declared.features.VenueRow.{VenueRow}
use Rattle.venue_types.specs.declared.folder_file.File.{File}
use Rattle.venue_types.specs.declared.folder_file.File.TheVariants as file
use Rattle.venue_types.specs.FolderFiles.{feature_files}

-- the identifiers of a file's features, in file order
abbrev pub ids_of : File → Features → List FeatureId
ids_of file.Manifest features = []
ids_of file.Address features = map (λ (row : PlainRow). row.id) features.addresses
ids_of file.Amenity features = map (λ (row : AmenityRow). row.id) features.amenities
ids_of file.Anchor features = map (λ (row : AnchorRow). row.id) features.anchors
ids_of file.Building features = map (λ (row : BuildingRow). row.id) features.buildings
ids_of file.Detail features = map (λ (row : DetailRow). row.id) features.details
ids_of file.Fixture features = map (λ (row : FixtureRow). row.id) features.fixtures
ids_of file.Footprint features = map (λ (row : FootprintRow). row.id) features.footprints
ids_of file.Geofence features = map (λ (row : PlainRow). row.id) features.geofences
ids_of file.Kiosk features = map (λ (row : KioskRow). row.id) features.kiosks
ids_of file.Level features = map (λ (row : LevelRow). row.id) features.levels
ids_of file.Occupant features = map (λ (row : OccupantRow). row.id) features.occupants
ids_of file.Opening features = map (λ (row : OpeningRow). row.id) features.openings
ids_of file.Relationship features = map (λ (row : RelationshipRow). row.id) features.relationships
ids_of file.Section features = map (λ (row : PlainRow). row.id) features.sections
ids_of file.Unit features = map (λ (row : UnitRow). row.id) features.units
ids_of file.Venue features = map (λ (row : VenueRow). row.id) features.venues

-- the feature at this place of the file has this identifier
abbrev pub IsFeature : Features → File → ℕ → FeatureId → Type 0
IsFeature features f k id = slice_get (ids_of f features) k ≡ Some id

-- how many features there are
abbrev pub feature_count : Features → ℕ
feature_count features = sum_by (λ f. length (ids_of f features)) feature_files

-- no two features have the same identifier
pub record HaveOwnIds (features : Features) : Type 0 where
  pub own : (f g : File) (k j : ℕ) (id : FeatureId) → IsFeature features f k id → IsFeature features g j id → (f ≡ g) × (k ≡ j)
