-- The rules on the spread of a folder and on rings: where each is broken.
use Rattle.std.specs.Prelude.{◌≡◌, pos, Contains, slice_get, Some}
use Rattle.venue_types.specs.declared.features.Features.{Features}
use Rattle.venue_types.specs.declared.finding.Finding.{Finding}
use Rattle.venue_types.specs.declared.point.Point.{Point}
use Rattle.venue_types.specs.declared.point.Shape.{Shape}
use Rattle.venue_types.specs.declared.folder_file.File.{File}
use Rattle.imdf_schema.specs.declared.rules.Rule.{Rule}
use Rattle.imdf_schema.specs.declared.rules.Rule.TheVariants as rule
use Rattle.venue_types.specs.FolderFiles.{file_number}
use Rattle.imdf_schema.specs.Rules.{rule_number}
use Rattle.plane_exact.specs.Plane.{IsClose}
use Rattle.plane_exact.specs.Corners.{doubled_area}
use Rattle.feature_rows.specs.Figures.{judged_positions, shapes_of}
use Rattle.ring_rules.specs.Rings.{Placed, placed_rings, CrossesItself, LeavesBorder}

-- two judged positions differ by more than 200,000,000 nanodegrees on an axis
pub record IsSpread (features : Features) : Type 0 where
  pub one : Point
  pub other : Point
  pub has_one : Contains (judged_positions features) one
  pub has_other : Contains (judged_positions features) other
  pub apart : ¬ IsClose one other

-- which is told of the folder
pub record BreaksSpread (features : Features) (x : Finding) : Type 0 where
  pub spread : IsSpread features
  pub rule : x.rule ≡ rule_number rule.G6
  pub in_file : x.file ≡ 0
  pub at_index : x.index ≡ 0
  pub at_member : x.member ≡ 0

-- the rules on a ring
abbrev pub RingBreaks : Rule → Placed → Type 0
-- two of its edges cross
RingBreaks rule.G3 placed = CrossesItself placed.ring
-- it is a hole, a vertex of which is neither inside the border of its polygon nor on it
RingBreaks rule.G4 placed = LeavesBorder placed
-- its area is 0
RingBreaks rule.G5 placed = doubled_area placed.ring ≡ pos 0
RingBreaks _ placed = ⊥

-- a rule on a ring is broken, which is told of its feature, and of its number among the feature's rings
pub record BreaksInRing (features : Features) (x : Finding) : Type 0 where
  pub rule : Rule
  pub number : x.rule ≡ rule_number rule
  pub source : File
  pub shape : Shape
  pub feature : slice_get (shapes_of source features) x.index ≡ Some shape
  pub placed : Placed
  pub there : slice_get (placed_rings shape) x.member ≡ Some placed
  pub breaks : RingBreaks rule placed
  pub in_file : x.file ≡ file_number source
