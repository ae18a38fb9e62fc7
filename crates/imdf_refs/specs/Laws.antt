-- What is so in a folder in which the second phase finds nothing: each reference names a feature, of its type.
use Rattle.std.specs.Prelude.{◌≡◌, ℕ, Contains, Some}
use Rattle.venue_types.specs.declared.feature_id.FeatureId.{FeatureId}
use Rattle.venue_types.specs.declared.features.Features.{Features}
use Rattle.venue_types.specs.declared.features.AmenityRow.{AmenityRow}
use Rattle.venue_types.specs.declared.features.AnchorRow.{AnchorRow}
use Rattle.venue_types.specs.declared.features.OccupantRow.{OccupantRow}
use Rattle.venue_types.specs.declared.features.OpeningRow.{OpeningRow}
use Rattle.venue_types.specs.declared.features.UnitRow.{UnitRow}
use Rattle.venue_types.specs.declared.finding.Finding.{Finding}
use Rattle.imdf_schema.specs.declared.table.PropertyRow.{PropertyRow}
use Rattle.feature_rows.specs.Named.{IsLevel, IsUnit, IsAnchor}
use Rattle.imdf_refs.specs.References.{Reference, Refers, file_named}
use Rattle.imdf_refs.specs.Rules.{IsTyped, IsMisnamed}

-- the second phase finds nothing
abbrev pub FindsNothing : Features → Type 0
FindsNothing features = (x : Finding) → ¬ IsMisnamed features x

-- one is so, and no other
pub record HasOne {X : Type 0} (Is : X → Type 0) : Type 0 where
  pub one : X
  pub is : Is one
  pub only : (other : X) → Is other → other ≡ one

-- a reference that has to name a feature of a type names one
abbrev pub NameTheirTypes : Features → Type 0
NameTheirTypes features = (row : PropertyRow) (k place : ℕ) (r : Reference) (f : ℕ) → Refers features row k place r → file_named row.names r ≡ Some f → IsTyped features r.id f

-- an opening's level is there, and is the only one of its identifier
abbrev pub OpeningsHaveLevels : Features → Type 0
OpeningsHaveLevels features = (opening : OpeningRow) → Contains features.openings opening → HasOne (IsLevel features opening.level)

-- so is a unit's
abbrev pub UnitsHaveLevels : Features → Type 0
UnitsHaveLevels features = (unit : UnitRow) → Contains features.units unit → HasOne (IsLevel features unit.level)

-- an anchor's unit is there, and is the only one of its identifier
abbrev pub AnchorsHaveUnits : Features → Type 0
AnchorsHaveUnits features = (anchor : AnchorRow) → Contains features.anchors anchor → HasOne (IsUnit features anchor.unit)

-- so is each of an amenity's units
abbrev pub AmenitiesHaveUnits : Features → Type 0
AmenitiesHaveUnits features = (amenity : AmenityRow) (id : FeatureId) → Contains features.amenities amenity → Contains amenity.units id → HasOne (IsUnit features id)

-- an occupant's anchor is there, and is the only one of its identifier
abbrev pub OccupantsHaveAnchors : Features → Type 0
OccupantsHaveAnchors features = (occupant : OccupantRow) → Contains features.occupants occupant → HasOne (IsAnchor features occupant.anchor)
