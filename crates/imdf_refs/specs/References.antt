-- What the properties of a folder's features name.
use Rattle.std.specs.Prelude.{◌≡◌, ℕ, List, [], ◌∷◌, map, slice_get, Option, Some, None, Contains}
use Rattle.venue_types.specs.declared.feature_id.FeatureId.{FeatureId}
use Rattle.venue_types.specs.declared.features.Features.{Features}
use Rattle.venue_types.specs.declared.features.Ref.{Ref}
use Rattle.venue_types.specs.declared.features.AmenityRow.{AmenityRow}
use Rattle.venue_types.specs.declared.features.AnchorRow.{AnchorRow}
use Rattle.venue_types.specs.declared.features.BuildingRow.{BuildingRow}
use Rattle.venue_types.specs.declared.features.DetailRow.{DetailRow}
use Rattle.venue_types.specs.declared.features.FixtureRow.{FixtureRow}
use Rattle.venue_types.specs.declared.features.FootprintRow.{FootprintRow}
use Rattle.venue_types.specs.declared.features.KioskRow.{KioskRow}
use Rattle.venue_types.specs.declared.features.LevelRow.{LevelRow}
use Rattle.venue_types.specs.declared.features.OccupantRow.{OccupantRow}
use Rattle.venue_types.specs.declared.features.OpeningRow.{OpeningRow}
use Rattle.venue_types.specs.declared.features.RelationshipRow.{RelationshipRow}
use Rattle.venue_types.specs.declared.features.UnitRow.{UnitRow}
use Rattle.venue_types.specs.declared.features.VenueRow.{VenueRow}
use Rattle.venue_types.specs.declared.folder_file.File.{File}
use Rattle.venue_types.specs.declared.folder_file.File.TheVariants as file
use Rattle.imdf_schema.specs.declared.table.Property.{Property}
use Rattle.imdf_schema.specs.declared.table.Property.TheVariants as property
use Rattle.imdf_schema.specs.declared.table.ReferenceTarget.{ReferenceTarget}
use Rattle.imdf_schema.specs.declared.table.ReferenceTarget.TheVariants as named
use Rattle.imdf_schema.specs.declared.table.PropertyRow.{PropertyRow}
use Rattle.venue_types.specs.FolderFiles.{file_number}
use Rattle.imdf_schema.specs.Properties.{properties}

-- what names a feature: an identifier, and of a reference object the type that it tells, as the number of the type's file
pub record Reference : Type 0 where
  pub id : FeatureId
  pub told : Option ℕ

abbrev pub by_id : FeatureId → Reference
by_id id = record { id = id; told = None }

abbrev pub by_object : Ref → Reference
by_object r = record { id = r.id; told = Some r.feature_type }

-- null names nothing
abbrev pub id_or_null : Option FeatureId → List Reference
id_or_null None = []
id_or_null (Some id) = by_id id ∷ []

abbrev pub object_or_null : Option Ref → List Reference
object_or_null None = []
object_or_null (Some r) = by_object r ∷ []

-- the references in a property of a feature, in their order
abbrev pub amenity_references : Property → AmenityRow → List Reference
amenity_references property.AddressId row = id_or_null row.address
amenity_references property.UnitIds row = map by_id row.units
amenity_references _ row = []

abbrev pub anchor_references : Property → AnchorRow → List Reference
anchor_references property.AddressId row = id_or_null row.address
anchor_references property.UnitId row = by_id row.unit ∷ []
anchor_references _ row = []

abbrev pub building_references : Property → BuildingRow → List Reference
building_references property.AddressId row = id_or_null row.address
building_references _ row = []

abbrev pub detail_references : Property → DetailRow → List Reference
detail_references property.LevelId row = id_or_null row.level
detail_references _ row = []

abbrev pub fixture_references : Property → FixtureRow → List Reference
fixture_references property.LevelId row = id_or_null row.level
fixture_references property.AnchorId row = id_or_null row.anchor
fixture_references _ row = []

abbrev pub footprint_references : Property → FootprintRow → List Reference
footprint_references property.BuildingIds row = map by_id row.buildings
footprint_references _ row = []

abbrev pub kiosk_references : Property → KioskRow → List Reference
kiosk_references property.LevelId row = id_or_null row.level
kiosk_references property.AnchorId row = id_or_null row.anchor
kiosk_references _ row = []

abbrev pub level_references : Property → LevelRow → List Reference
level_references property.AddressId row = id_or_null row.address
level_references property.BuildingIds row = map by_id row.buildings
level_references _ row = []

abbrev pub occupant_references : Property → OccupantRow → List Reference
occupant_references property.AnchorId row = by_id row.anchor ∷ []
occupant_references _ row = []

abbrev pub opening_references : Property → OpeningRow → List Reference
opening_references property.LevelId row = by_id row.level ∷ []
opening_references _ row = []

abbrev pub relationship_references : Property → RelationshipRow → List Reference
relationship_references property.Origin row = object_or_null row.origin
relationship_references property.Intermediary row = map by_object row.between
relationship_references property.Destination row = object_or_null row.destination
relationship_references _ row = []

abbrev pub unit_references : Property → UnitRow → List Reference
unit_references property.LevelId row = by_id row.level ∷ []
unit_references _ row = []

abbrev pub venue_references : Property → VenueRow → List Reference
venue_references property.AddressId row = id_or_null row.address
venue_references _ row = []

-- the references in this property of each feature of the file, in file order
abbrev pub references_in : Features → File → Property → List (List Reference)
references_in features file.Amenity p = map (amenity_references p) features.amenities
references_in features file.Anchor p = map (anchor_references p) features.anchors
references_in features file.Building p = map (building_references p) features.buildings
references_in features file.Detail p = map (detail_references p) features.details
references_in features file.Fixture p = map (fixture_references p) features.fixtures
references_in features file.Footprint p = map (footprint_references p) features.footprints
references_in features file.Kiosk p = map (kiosk_references p) features.kiosks
references_in features file.Level p = map (level_references p) features.levels
references_in features file.Occupant p = map (occupant_references p) features.occupants
references_in features file.Opening p = map (opening_references p) features.openings
references_in features file.Relationship p = map (relationship_references p) features.relationships
references_in features file.Unit p = map (unit_references p) features.units
references_in features file.Venue p = map (venue_references p) features.venues
references_in features _ p = []

-- the file of the type that a reference has to name, by its number
abbrev pub file_named : ReferenceTarget → Reference → Option ℕ
file_named named.Nothing r = None
file_named named.Address r = Some (file_number file.Address)
file_named named.Building r = Some (file_number file.Building)
file_named named.Level r = Some (file_number file.Level)
file_named named.Unit r = Some (file_number file.Unit)
file_named named.Anchor r = Some (file_number file.Anchor)
file_named named.ByReference r = r.told

-- at this place of the property's list in the k-th feature of the property's file stands this reference
pub record Refers (features : Features) (row : PropertyRow) (k place : ℕ) (r : Reference) : Type 0 where
  pub listed : Contains properties row
  pub all : List Reference
  pub feature : slice_get (references_in features row.file row.property) k ≡ Some all
  pub there : slice_get all place ≡ Some r
