-- Places by their numbers.
use Rattle.std.specs.Prelude.{ℕ, Option}
use Rattle.std.specs.List.{position_from}
use Rattle.venue_types.specs.declared.feature_id.FeatureId.{FeatureId}
use Rattle.venue_types.specs.declared.features.Features.{Features}
use Rattle.venue_types.specs.declared.reply.PlaceRow.{PlaceRow}
use Rattle.link_graph.specs.Identity.{is_same}
use Rattle.venue_build.specs.Places.{places}

-- the number of the first place of this identifier, from 0
unfoldable pub place_number : Features → FeatureId → Option ℕ
place_number features id = position_from (λ (row : PlaceRow). is_same row.id id) 0 (places features)
