-- What holds of the rows of a folder in which the first phase finds nothing.
use Rattle.std.specs.Prelude.{◌≡◌, ℕ, ◌+◌, ◌-◌, ◌≤◌, pos, neg_ℤ, ◌≤ℤ◌, All, length, slice_get, Option, Some, None}
use Rattle.venue_types.specs.declared.features.Features.{Features}
use Rattle.venue_types.specs.declared.features.OpeningRow.{OpeningRow}
use Rattle.venue_types.specs.declared.features.RelationshipRow.{RelationshipRow}
use Rattle.venue_types.specs.declared.features.Ref.{Ref}
use Rattle.venue_types.specs.declared.point.Point.{Point}
use Rattle.venue_types.specs.declared.point.Ring.{Ring}
use Rattle.venue_types.specs.declared.point.Shape.{Shape}
use Rattle.venue_types.specs.declared.folder_file.File.{File}
use Rattle.plane_exact.specs.Figure.{rings}
use Rattle.feature_rows.specs.Rows.{feature_count}
use Rattle.feature_rows.specs.Figures.{shapes_of, positions, judged_positions}

-- longitude within half a turn, latitude within a quarter of one, in nanodegrees
pub record IsOnEarth (p : Point) : Type 0 where
  pub west : neg_ℤ (pos 180000000000) ≤ℤ p.x
  pub east : p.x ≤ℤ pos 180000000000
  pub south : neg_ℤ (pos 90000000000) ≤ℤ p.y
  pub north : p.y ≤ℤ pos 90000000000

-- four to 20,000 positions, of which the last equals the first (RFC 7946, section 3.1.6)
pub record IsSoundRing (ring : Ring) : Type 0 where
  pub four : 4 ≤ length ring.points
  pub few : length ring.points ≤ 20000
  pub closed : slice_get ring.points 0 ≡ slice_get ring.points (length ring.points - 1)

-- a polygon or more, all rings of which are sound
pub record IsSoundShape (shape : Shape) : Type 0 where
  pub one : 1 ≤ length shape.parts
  pub rings : All IsSoundRing (rings shape)

abbrev one_of : Option Ref → ℕ
one_of reference = elim reference [ None ↦ 0 | Some r ↦ 1 ]

-- origin, intermediaries and destination of a relationship
abbrev pub element_count : RelationshipRow → ℕ
element_count row = one_of row.origin + length row.between + one_of row.destination

-- one venue, the limits of numbers kept, each position on the earth, each figure of its form
pub record AreSound (features : Features) : Type 0 where
  pub one_venue : length features.venues ≡ 1
  pub few_features : feature_count features ≤ 100000
  pub few_positions : length (positions features) ≤ 1000000
  pub few_elements : All (λ (row : RelationshipRow). element_count row ≤ 65) features.relationships
  pub on_earth : All IsOnEarth (judged_positions features)
  pub lines : All (λ (row : OpeningRow). 2 ≤ length row.line.points) features.openings
  pub shapes : (f : File) → All IsSoundShape (shapes_of f features)
