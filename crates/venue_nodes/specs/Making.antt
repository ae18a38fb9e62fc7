-- What has to hold of rows so that nodes can be made of them: the code's own machinery.
use Rattle.std.specs.Prelude.{◌+◌, ◌≤◌, All, length}
use Rattle.venue_types.specs.declared.features.Features.{Features}
use Rattle.venue_types.specs.declared.features.AmenityRow.{AmenityRow}
use Rattle.venue_types.specs.declared.features.AnchorRow.{AnchorRow}
use Rattle.venue_types.specs.declared.features.OpeningRow.{OpeningRow}
use Rattle.venue_types.specs.declared.features.UnitRow.{UnitRow}
use Rattle.venue_types.specs.declared.settings.Settings.{Settings}
use Rattle.plane_exact.specs.Figure.{AllNearby, vertices}
use Rattle.venue_nodes.specs.Nodes.{amenity, anchor, opening, unit, room_corners}
use Rattle.venue_nodes.specs.Bounds.{IsPlaced}

-- few features are places or can be closed
pub record AreFew (features : Features) : Type 0 where
  pub some : length features.amenities + length features.anchors + length features.occupants + length features.openings + length features.relationships + length features.units ≤ 100000

-- few they are and few corners they have, what nodes are made of lies on the earth, and each unit within reach of itself
pub record CanPlace (features : Features) : Type 0 where
  pub few : AreFew features
  pub amenities : All (λ (row : AmenityRow). IsPlaced (amenity row)) features.amenities
  pub anchors : All (λ (row : AnchorRow). IsPlaced (anchor row)) features.anchors
  pub openings : All (λ (row : OpeningRow). IsPlaced (opening row)) features.openings
  pub units : All (λ (row : UnitRow). IsPlaced (unit row)) features.units
  pub near : All (λ (row : UnitRow). AllNearby (vertices row.shape)) features.units
  pub few_corners : (settings : Settings) → length (room_corners features settings) ≤ 1000000
