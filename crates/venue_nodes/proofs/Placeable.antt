-- Nodes can be made of the features of a folder in which the earlier phases find nothing.
use Rattle.venue_types.specs.declared.features.Features.{Features}
use Rattle.plane_exact.specs.Figure.{AllClose}
use Rattle.feature_rows.specs.Figures.{judged_positions}
use Rattle.feature_rows.specs.Sound.{AreSound}
use Rattle.venue_nodes.specs.Making.{CanPlace}
use Rattle.venue_nodes.proofs.Counts.{are_few}
use Rattle.venue_nodes.proofs.CornerTotals.{near_units, few_room_corners}
use Rattle.venue_nodes.proofs.Judged.{amenities_placed, anchors_placed, openings_placed, units_placed}

pub placeable : (features : Features) → AreSound features → AllClose (judged_positions features) → CanPlace features
placeable features sound close = record {
  few = are_few features sound;
  amenities = amenities_placed features sound;
  anchors = anchors_placed features sound;
  openings = openings_placed features sound;
  units = units_placed features sound;
  near = near_units features close;
  few_corners = λ settings. few_room_corners features settings sound;
}
