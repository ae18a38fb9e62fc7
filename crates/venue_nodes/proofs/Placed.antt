-- The number of a place is that of a node.
use Rattle.std.proofs.Common.{◌≡◌, ℕ, ◌<◌, Option, Some, None, length, arith}
use Rattle.std.specs.List.{find}
use Rattle.venue_types.specs.declared.feature_id.FeatureId.{FeatureId}
use Rattle.venue_types.specs.declared.features.Features.{Features}
use Rattle.venue_types.specs.declared.features.OccupantRow.{OccupantRow}
use Rattle.venue_types.specs.declared.link.Node.{Node}
use Rattle.venue_types.specs.declared.settings.Settings.{Settings}
use Rattle.venue_nodes.specs.Identity.{is_same}
use Rattle.venue_nodes.specs.Nodes.{place_nodes, nodes, node_number, place_of}
use Rattle.venue_nodes.proofs.Behind.{nodes_long}
use Rattle.venue_nodes.proofs.Finding.{by_row, position_within}

node_within : (features : Features) (id : FeatureId) (n : ℕ) → node_number features id ≡ Some n → n < length (place_nodes features)
node_within features id n e = position_within (λ (node : Node). is_same node.id id) (place_nodes features) n e

row_within : (features : Features) (id : FeatureId) (o : Option OccupantRow) (n : ℕ) → by_row (node_number features) (node_number features id) o ≡ Some n → n < length (place_nodes features)
row_within features id None n e = node_within features id n e
row_within features id (Some row) n e = node_within features row.anchor n e

among_places : (features : Features) (id : FeatureId) (n : ℕ) → place_of features id ≡ Some n → n < length (place_nodes features)
unfolding place_of
among_places features id n e = row_within features id (find (λ (row : OccupantRow). is_same row.id id) features.occupants) n e

pub place_within : (features : Features) (settings : Settings) (id : FeatureId) (n : ℕ) → place_of features id ≡ Some n → n < length (nodes features settings)
place_within features settings id n e = omega (arith, among_places features id n e, nodes_long features settings)
