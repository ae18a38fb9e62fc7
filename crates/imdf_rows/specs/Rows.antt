-- The row of a feature, each field taken from its member.
use Rattle.std.specs.Prelude.{◌≡◌, ℤ, not, codes}
use Rattle.exact_json.specs.Json.{Json, member}
use Rattle.geo_shapes.specs.Geometry.{HasPoint, HasLine, HasShape}
use Rattle.venue_types.specs.declared.feature_id.FeatureId.{FeatureId}
use Rattle.venue_types.specs.declared.features.PlainRow.{PlainRow}
use Rattle.venue_types.specs.declared.features.AmenityRow.{AmenityRow}
use Rattle.venue_types.specs.declared.features.AnchorRow.{AnchorRow}
use Rattle.venue_types.specs.declared.features.BuildingRow.{BuildingRow}
use Rattle.venue_types.specs.declared.features.DetailRow.{DetailRow}
use Rattle.venue_types.specs.declared.features.FixtureRow.{FixtureRow}
use Rattle.venue_types.specs.declared.features.FootprintRow.{FootprintRow}
use Rattle.venue_types.specs.declared.features.KioskRow.{KioskRow}
use Rattle.venue_types.specs.declared.features.LevelRow.{LevelRow}
use Rattle.venue_types.specs.declared.features.OccupantRow.{OccupantRow}
use Rattle.venue_types.specs.declared.features.OpeningRow.{OpeningRow}
use Rattle.venue_types.specs.declared.features.RelationshipRow.{RelationshipRow}
use Rattle.venue_types.specs.declared.features.UnitRow.{UnitRow}
use Rattle.venue_types.specs.declared.features.VenueRow.{VenueRow}
use Rattle.imdf_schema.specs.declared.table.Property.TheVariants as property
use Rattle.imdf_schema.specs.Values.{is_null, is_word, id_of}
use Rattle.imdf_schema.specs.Items as item
use Rattle.imdf_rows.specs.Fields.{id_field, text_field, ids_field, ref_of, refs_field, labels_field, lists_word, door_is, passage_field, IsDisplay, IsOrdinal}

-- its identifier
abbrev pub id_in : Json → FeatureId
id_in v = id_field (member v (codes "id"))

-- of addresses, geofences and sections only the identifier counts
pub record IsPlainRow (v : Json) (row : PlainRow) : Type 0 where
  pub id : row.id ≡ id_in v

pub record IsAmenityRow (v : Json) (row : AmenityRow) : Type 0 where
  pub id : row.id ≡ id_in v
  pub address : row.address ≡ id_of (item.property v property.AddressId)
  pub units : row.units ≡ ids_field (item.property v property.UnitIds)
  pub point : HasPoint (item.geometry v) row.point
  pub category : row.category ≡ text_field (item.property v property.Category)
  pub name : row.name ≡ labels_field (item.property v property.Name)

pub record IsAnchorRow (v : Json) (row : AnchorRow) : Type 0 where
  pub id : row.id ≡ id_in v
  pub address : row.address ≡ id_of (item.property v property.AddressId)
  pub unit : row.unit ≡ id_field (item.property v property.UnitId)
  pub point : HasPoint (item.geometry v) row.point

pub record IsBuildingRow (v : Json) (row : BuildingRow) : Type 0 where
  pub id : row.id ≡ id_in v
  pub address : row.address ≡ id_of (item.property v property.AddressId)

pub record IsDetailRow (v : Json) (row : DetailRow) : Type 0 where
  pub id : row.id ≡ id_in v
  pub level : row.level ≡ id_of (item.property v property.LevelId)

pub record IsFixtureRow (v : Json) (row : FixtureRow) : Type 0 where
  pub id : row.id ≡ id_in v
  pub level : row.level ≡ id_of (item.property v property.LevelId)
  pub anchor : row.anchor ≡ id_of (item.property v property.AnchorId)
  pub shape : HasShape (item.geometry v) row.shape

pub record IsFootprintRow (v : Json) (row : FootprintRow) : Type 0 where
  pub id : row.id ≡ id_in v
  pub buildings : row.buildings ≡ ids_field (item.property v property.BuildingIds)
  pub shape : HasShape (item.geometry v) row.shape

pub record IsKioskRow (v : Json) (row : KioskRow) : Type 0 where
  pub id : row.id ≡ id_in v
  pub level : row.level ≡ id_of (item.property v property.LevelId)
  pub anchor : row.anchor ≡ id_of (item.property v property.AnchorId)

-- the ordinal, where it is one
pub record IsLevelRow (v : Json) (row : LevelRow) : Type 0 where
  pub id : row.id ≡ id_in v
  pub address : row.address ≡ id_of (item.property v property.AddressId)
  pub buildings : row.buildings ≡ ids_field (item.property v property.BuildingIds)
  pub ordinal : (n : ℤ) → IsOrdinal (item.unlisted_property v (codes "ordinal")) n → row.ordinal ≡ n
  pub shape : HasShape (item.geometry v) row.shape

pub record IsOccupantRow (v : Json) (row : OccupantRow) : Type 0 where
  pub id : row.id ≡ id_in v
  pub anchor : row.anchor ≡ id_field (item.property v property.AnchorId)
  pub name : row.name ≡ labels_field (item.property v property.Name)

pub record IsOpeningRow (v : Json) (row : OpeningRow) : Type 0 where
  pub id : row.id ≡ id_in v
  pub level : row.level ≡ id_field (item.property v property.LevelId)
  pub line : HasLine (item.geometry v) row.line
  pub revolving : row.revolving ≡ door_is (item.property v property.Door) (codes "revolving")
  pub turnstile : row.turnstile ≡ door_is (item.property v property.Door) (codes "turnstile")
  pub marked : row.marked ≡ lists_word (item.property v property.Accessibility) (codes "wheelchair")
  pub out : row.out ≡ lists_word (item.property v property.AccessControl) (codes "outofservice")

pub record IsRelationshipRow (v : Json) (row : RelationshipRow) : Type 0 where
  pub id : row.id ≡ id_in v
  pub kind : row.kind ≡ passage_field (item.property v property.Category)
  pub directed : row.directed ≡ is_word (item.unlisted_property v (codes "direction")) (codes "directed")
  pub origin : row.origin ≡ ref_of (item.property v property.Origin)
  pub between : row.between ≡ refs_field (item.property v property.Intermediary)
  pub destination : row.destination ≡ ref_of (item.property v property.Destination)

-- restricted where the restriction isn't null, whatever its text
pub record IsUnitRow (v : Json) (row : UnitRow) : Type 0 where
  pub id : row.id ≡ id_in v
  pub level : row.level ≡ id_field (item.property v property.LevelId)
  pub shape : HasShape (item.geometry v) row.shape
  pub display : IsDisplay (item.property v property.DisplayPoint) row.display
  pub category : row.category ≡ text_field (item.property v property.Category)
  pub restricted : row.restricted ≡ not (is_null (item.property v property.Restriction))
  pub name : row.name ≡ labels_field (item.property v property.Name)

pub record IsVenueRow (v : Json) (row : VenueRow) : Type 0 where
  pub id : row.id ≡ id_in v
  pub address : row.address ≡ id_of (item.property v property.AddressId)
  pub shape : HasShape (item.geometry v) row.shape
