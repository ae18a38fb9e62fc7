-- The rows of a folder: one for each item of a file, in file order.
use Rattle.std.specs.Prelude.{List, Option}
use Rattle.std.specs.List.{AllZip}
use Rattle.exact_json.specs.Json.{Json}
use Rattle.venue_types.specs.declared.files.Files.{Files}
use Rattle.venue_types.specs.declared.features.Features.{Features}
use Rattle.venue_types.specs.declared.folder_file.File.{File}
use Rattle.venue_types.specs.declared.folder_file.File.TheVariants as file
use Rattle.imdf_schema.specs.Contents.{HasContent, content_items}
use Rattle.imdf_rows.specs.Rows.{IsPlainRow, IsAmenityRow, IsAnchorRow, IsBuildingRow, IsDetailRow, IsFixtureRow, IsFootprintRow, IsKioskRow, IsLevelRow, IsOccupantRow, IsOpeningRow, IsRelationshipRow, IsUnitRow, IsVenueRow}

-- the rows of a file
pub record AreRows {Row : Type 0} (IsRow : Json → Row → Type 0) (files : Files) (f : File) (rows : List Row) : Type 0 where
  pub content : Option Json
  pub held : HasContent files f content
  pub each : AllZip IsRow (content_items content) rows

-- the rows of all files
pub record AreFeatures (files : Files) (features : Features) : Type 0 where
  pub addresses : AreRows IsPlainRow files file.Address features.addresses
  pub amenities : AreRows IsAmenityRow files file.Amenity features.amenities
  pub anchors : AreRows IsAnchorRow files file.Anchor features.anchors
  pub buildings : AreRows IsBuildingRow files file.Building features.buildings
  pub details : AreRows IsDetailRow files file.Detail features.details
  pub fixtures : AreRows IsFixtureRow files file.Fixture features.fixtures
  pub footprints : AreRows IsFootprintRow files file.Footprint features.footprints
  pub geofences : AreRows IsPlainRow files file.Geofence features.geofences
  pub kiosks : AreRows IsKioskRow files file.Kiosk features.kiosks
  pub levels : AreRows IsLevelRow files file.Level features.levels
  pub occupants : AreRows IsOccupantRow files file.Occupant features.occupants
  pub openings : AreRows IsOpeningRow files file.Opening features.openings
  pub relationships : AreRows IsRelationshipRow files file.Relationship features.relationships
  pub sections : AreRows IsPlainRow files file.Section features.sections
  pub units : AreRows IsUnitRow files file.Unit features.units
  pub venues : AreRows IsVenueRow files file.Venue features.venues
