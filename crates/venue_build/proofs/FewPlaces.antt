-- How many places there are at most.
use Rattle.std.proofs.Common.{◌≡◌, ℕ, ◌+◌, ◌≤◌, ◌<◌, length, Some, arith, sym, ◌∙◌}
use Rattle.std.proofs.lemmas.List.{length-map}
use Rattle.venue_types.specs.declared.feature_id.FeatureId.{FeatureId}
use Rattle.venue_types.specs.declared.features.Features.{Features}
use Rattle.venue_types.specs.declared.features.AmenityRow.{AmenityRow}
use Rattle.venue_types.specs.declared.features.AnchorRow.{AnchorRow}
use Rattle.venue_types.specs.declared.features.OccupantRow.{OccupantRow}
use Rattle.venue_types.specs.declared.features.OpeningRow.{OpeningRow}
use Rattle.venue_types.specs.declared.features.UnitRow.{UnitRow}
use Rattle.venue_types.specs.declared.reply.PlaceRow.{PlaceRow}
use Rattle.imdf_read.specs.Sound.{AreSound}
use Rattle.imdf_read.specs.Indexes.{place_of}
use Rattle.link_graph.specs.Identity.{is_same}
use Rattle.link_graph.proofs.Places.{places_few}
use Rattle.link_graph.proofs.Finding.{position_within}
use Rattle.venue_build.specs.Places.{places}
use Rattle.venue_build.specs.declared.place_table.Places.{Places}
use Rattle.venue_build.specs.Placing.{ArePlaces, can_walk, place_id}
use Rattle.venue_build.proofs.PlaceRanges.{places_long, as_many}

some_features : (features : Features) → AreSound features → length features.amenities + length features.anchors + length features.occupants + length features.openings + length features.units ≤ 100000
some_features features sound =
    let a = length-map features.amenities (λ (row : AmenityRow). row.id) in
    let b = length-map features.anchors (λ (row : AnchorRow). row.id) in
    let c = length-map features.occupants (λ (row : OccupantRow). row.id) in
    let d = length-map features.openings (λ (row : OpeningRow). row.id) in
    let e = length-map features.units (λ (row : UnitRow). row.id) in
    let f = sound.few_features in
    omega arith

pub few_units : (features : Features) → AreSound features → length features.units ≤ 100000
few_units features sound = let some = some_features features sound in omega arith

pub few_places : (features : Features) → AreSound features → length (places features) ≤ 100000
few_places features sound =
    let some = some_features features sound in
    let all = places_long features in
    let same = as_many features.units in
    let kept = places_few can_walk 0 features.units in
    omega arith

pub number_small : (features : Features) (kept : Places) (id : FeatureId) (k : ℕ) → ArePlaces features kept → place_of kept.index id ≡ Some k → k < 100000
number_small features kept id k are e =
    let within = position_within (λ (row : PlaceRow). is_same (place_id row) id) (places features) k (sym (are.index_is.first id) ∙ e) in
    let few = are.few in
    omega arith
