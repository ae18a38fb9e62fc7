-- What the rows of a folder keep in which the first phase finds nothing, as far as their fixed form needs it to be read back.
use Rattle.std.specs.Prelude.{◌≡◌, ◌≢◌, ◌^◌, ◌<◌, ◌≤◌, List, length, All, IfSome}
use Rattle.std.specs.Str.{IsUtf8}
use Rattle.venue_types.specs.declared.feature_id.FeatureId.{FeatureId}
use Rattle.venue_types.specs.declared.features.Label.{Label}
use Rattle.venue_types.specs.declared.features.Ref.{Ref}
use Rattle.venue_types.specs.declared.features.PlainRow.{PlainRow}
use Rattle.venue_types.specs.declared.features.AmenityRow.{AmenityRow}
use Rattle.venue_types.specs.declared.features.AnchorRow.{AnchorRow}
use Rattle.venue_types.specs.declared.features.BuildingRow.{BuildingRow}
use Rattle.venue_types.specs.declared.features.DetailRow.{DetailRow}
use Rattle.venue_types.specs.declared.features.FixtureRow.{FixtureRow}
use Rattle.venue_types.specs.declared.features.FootprintRow.{FootprintRow}
use Rattle.venue_types.specs.declared.features.KioskRow.{KioskRow}
use Rattle.venue_types.specs.declared.features.LevelRow.{LevelRow}
use Rattle.venue_types.specs.declared.features.OccupantRow.{OccupantRow}
use Rattle.venue_types.specs.declared.features.OpeningRow.{OpeningRow}
use Rattle.venue_types.specs.declared.features.RelationshipRow.{RelationshipRow}
use Rattle.venue_types.specs.declared.features.UnitRow.{UnitRow}
use Rattle.venue_types.specs.declared.features.VenueRow.{VenueRow}
use Rattle.venue_types.specs.declared.folder_file.File.{File}
use Rattle.venue_types.specs.declared.folder_file.File.TheVariants as file
use Rattle.venue_types.specs.declared.point.Line.{Line}
use Rattle.venue_types.specs.declared.point.Shape.{Shape}
use Rattle.venue_types.specs.FolderFiles.{file_number}
use Rattle.plane_exact.specs.Figure.{vertices}
use Rattle.imdf_read.specs.Sound.{IsOnEarth, IsSoundShape}
use Rattle.imdf_rows.specs.Laws.{TagsAscend, IsOneDoor, IsPassageOrNone}
use Rattle.imdf_read.specs.Ordinals.{IsInRange}

-- an identifier of sixteen bytes
abbrev pub FitsId : FeatureId → Type 0
FitsId id = id.0 < 2 ^ 128

-- a reference to a feature of one of the sixteen types
pub record FitsRef (r : Ref) : Type 0 where
  pub id : FitsId r.id
  pub target : File
  pub features : target ≢ file.Manifest
  pub number : r.feature_type ≡ file_number target

-- a tag and a text in UTF-8
pub record FitsLabel (x : Label) : Type 0 where
  pub tag : IsUtf8 x.tag
  pub text : IsUtf8 x.text

-- the labels of a name, whose tags rise
pub record FitsName (labels : List Label) : Type 0 where
  pub ascend : TagsAscend labels
  pub each : All FitsLabel labels

-- two positions or more, on the earth
pub record FitsLine (line : Line) : Type 0 where
  pub points : All IsOnEarth line.points
  pub two : 2 ≤ length line.points

-- a polygon or more, closed rings of four to 20,000 positions on the earth
pub record FitsShape (shape : Shape) : Type 0 where
  pub points : All IsOnEarth (vertices shape)
  pub sound : IsSoundShape shape

pub record FitsPlain (row : PlainRow) : Type 0 where
  pub id : FitsId row.id

-- an amenity is in a unit or more
pub record FitsAmenity (row : AmenityRow) : Type 0 where
  pub id : FitsId row.id
  pub address : IfSome row.address FitsId
  pub units : All FitsId row.units
  pub one : 1 ≤ length row.units
  pub point : IsOnEarth row.point
  pub category : IsUtf8 row.category
  pub name : FitsName row.name

pub record FitsAnchor (row : AnchorRow) : Type 0 where
  pub id : FitsId row.id
  pub address : IfSome row.address FitsId
  pub unit : FitsId row.unit
  pub point : IsOnEarth row.point

pub record FitsBuilding (row : BuildingRow) : Type 0 where
  pub id : FitsId row.id
  pub address : IfSome row.address FitsId

pub record FitsDetail (row : DetailRow) : Type 0 where
  pub id : FitsId row.id
  pub level : IfSome row.level FitsId

pub record FitsFixture (row : FixtureRow) : Type 0 where
  pub id : FitsId row.id
  pub level : IfSome row.level FitsId
  pub anchor : IfSome row.anchor FitsId
  pub shape : FitsShape row.shape

pub record FitsFootprint (row : FootprintRow) : Type 0 where
  pub id : FitsId row.id
  pub buildings : All FitsId row.buildings
  pub shape : FitsShape row.shape

pub record FitsKiosk (row : KioskRow) : Type 0 where
  pub id : FitsId row.id
  pub level : IfSome row.level FitsId
  pub anchor : IfSome row.anchor FitsId

pub record FitsLevel (row : LevelRow) : Type 0 where
  pub id : FitsId row.id
  pub address : IfSome row.address FitsId
  pub buildings : All FitsId row.buildings
  pub ordinal : IsInRange row
  pub shape : FitsShape row.shape

pub record FitsOccupant (row : OccupantRow) : Type 0 where
  pub id : FitsId row.id
  pub anchor : FitsId row.anchor
  pub name : FitsName row.name

pub record FitsOpening (row : OpeningRow) : Type 0 where
  pub id : FitsId row.id
  pub level : FitsId row.level
  pub line : FitsLine row.line
  pub door : IsOneDoor row

pub record FitsRelationship (row : RelationshipRow) : Type 0 where
  pub id : FitsId row.id
  pub passage : IsPassageOrNone row
  pub origin : IfSome row.origin FitsRef
  pub between : All FitsRef row.between
  pub destination : IfSome row.destination FitsRef

pub record FitsUnit (row : UnitRow) : Type 0 where
  pub id : FitsId row.id
  pub level : FitsId row.level
  pub shape : FitsShape row.shape
  pub display : IfSome row.display IsOnEarth
  pub category : IsUtf8 row.category
  pub name : FitsName row.name

pub record FitsVenue (row : VenueRow) : Type 0 where
  pub id : FitsId row.id
  pub address : IfSome row.address FitsId
  pub shape : FitsShape row.shape
