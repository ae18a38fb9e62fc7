-- The rules on what holds what: a level its units and openings, a unit its anchors and amenities.
use Rattle.std.specs.Prelude.{◌≡◌, ℕ, ◌⊎◌, Contains, slice_get, Some}
use Rattle.venue_types.specs.declared.feature_id.FeatureId.{FeatureId}
use Rattle.venue_types.specs.declared.features.Features.{Features}
use Rattle.venue_types.specs.declared.features.AmenityRow.{AmenityRow}
use Rattle.venue_types.specs.declared.features.AnchorRow.{AnchorRow}
use Rattle.venue_types.specs.declared.features.LevelRow.{LevelRow}
use Rattle.venue_types.specs.declared.features.OpeningRow.{OpeningRow}
use Rattle.venue_types.specs.declared.features.UnitRow.{UnitRow}
use Rattle.venue_types.specs.declared.finding.Finding.{Finding}
use Rattle.venue_types.specs.declared.point.Point.{Point}
use Rattle.venue_types.specs.declared.point.Shape.{Shape}
use Rattle.venue_types.specs.declared.folder_file.File.{File}
use Rattle.venue_types.specs.declared.folder_file.File.TheVariants as file
use Rattle.imdf_schema.specs.declared.rules.Rule.{Rule}
use Rattle.imdf_schema.specs.declared.rules.Rule.TheVariants as rule
use Rattle.venue_types.specs.FolderFiles.{file_number}
use Rattle.imdf_schema.specs.Rules.{rule_number}
use Rattle.plane_exact.specs.Figure.{IsInside, IsNear, vertices}
use Rattle.feature_rows.specs.Named.{IsLevel, IsUnit}

-- the position is inside the shape, or near its border, within the tolerance
abbrev pub IsHeld : ℕ → Shape → Point → Type 0
IsHeld tolerance shape p = IsInside p shape ⊎ IsNear p shape tolerance

-- the file of the features that a rule on what holds what judges; for each other rule the manifest, which has none
abbrev pub file_judged : Rule → File
file_judged rule.K1 = file.Unit
file_judged rule.K2 = file.Anchor
file_judged rule.K3 = file.Amenity
file_judged rule.K4 = file.Opening
file_judged _ = file.Manifest

-- a vertex of the unit is not held by its level
pub record UnitLeaves (features : Features) (tolerance : ℕ) (unit : UnitRow) : Type 0 where
  pub level : LevelRow
  pub its : IsLevel features unit.level level
  pub vertex : Point
  pub has : Contains (vertices unit.shape) vertex
  pub outside : ¬ IsHeld tolerance level.shape vertex

-- the anchor's point is not held by its unit
pub record AnchorLeaves (features : Features) (tolerance : ℕ) (anchor : AnchorRow) : Type 0 where
  pub unit : UnitRow
  pub its : IsUnit features anchor.unit unit
  pub outside : ¬ IsHeld tolerance unit.shape anchor.point

-- the amenity's point is held by none of its units
pub record AmenityLeaves (features : Features) (tolerance : ℕ) (amenity : AmenityRow) : Type 0 where
  pub outside : (id : FeatureId) (unit : UnitRow) → Contains amenity.units id → IsUnit features id unit → ¬ IsHeld tolerance unit.shape amenity.point

-- a vertex of the opening is not held by its level
pub record OpeningLeaves (features : Features) (tolerance : ℕ) (opening : OpeningRow) : Type 0 where
  pub level : LevelRow
  pub its : IsLevel features opening.level level
  pub vertex : Point
  pub has : Contains opening.line.points vertex
  pub outside : ¬ IsHeld tolerance level.shape vertex

-- the rule is broken by the feature at this place of its file
abbrev pub HoldBreaks : Rule → Features → ℕ → ℕ → Type 0
HoldBreaks rule.K1 features tolerance k = (unit : UnitRow) × (slice_get features.units k ≡ Some unit) × UnitLeaves features tolerance unit
HoldBreaks rule.K2 features tolerance k = (anchor : AnchorRow) × (slice_get features.anchors k ≡ Some anchor) × AnchorLeaves features tolerance anchor
HoldBreaks rule.K3 features tolerance k = (amenity : AmenityRow) × (slice_get features.amenities k ≡ Some amenity) × AmenityLeaves features tolerance amenity
HoldBreaks rule.K4 features tolerance k = (opening : OpeningRow) × (slice_get features.openings k ≡ Some opening) × OpeningLeaves features tolerance opening
HoldBreaks _ features tolerance k = ⊥

-- something is not held by what is to hold it, which is told of the feature
pub record BreaksHold (features : Features) (tolerance : ℕ) (x : Finding) : Type 0 where
  pub rule : Rule
  pub number : x.rule ≡ rule_number rule
  pub breaks : HoldBreaks rule features tolerance x.index
  pub in_file : x.file ≡ file_number (file_judged rule)
  pub at_member : x.member ≡ 0
