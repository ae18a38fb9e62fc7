-- How many nodes there are at most, and how many features that can be closed.
use Rattle.std.proofs.Common.{ℕ, ◌+◌, ◌≤◌, Bool, true, false, cond, List, [], ◌∷◌, ◌++◌, length, map, filter, arith, length-append}
use Rattle.std.proofs.lemmas.List.{length-map}
use Rattle.venue_types.specs.declared.features.Features.{Features}
use Rattle.venue_types.specs.declared.features.AmenityRow.{AmenityRow}
use Rattle.venue_types.specs.declared.features.AnchorRow.{AnchorRow}
use Rattle.venue_types.specs.declared.features.OccupantRow.{OccupantRow}
use Rattle.venue_types.specs.declared.features.OpeningRow.{OpeningRow}
use Rattle.venue_types.specs.declared.features.RelationshipRow.{RelationshipRow}
use Rattle.venue_types.specs.declared.features.UnitRow.{UnitRow}
use Rattle.imdf_access.specs.Categories.{is_walkable}
use Rattle.feature_rows.specs.Sound.{AreSound}
use Rattle.venue_nodes.specs.Making.{AreFew}
use Rattle.venue_nodes.specs.Nodes.{amenity, anchor, opening, unit, node_of_row, place_node_rows, place_nodes, closables, walkable_units}

kept_one : {X : Type 0} (b : Bool) (x : X) (ys xs : List X) → length ys ≤ length xs → length (cond b (x ∷ ys) ys) ≤ length (x ∷ xs)
kept_one true x ys xs h = omega arith
kept_one false x ys xs h = omega arith

-- a filter keeps no more than there is
kept_few : {X : Type 0} (test : X → Bool) (xs : List X) → length (filter test xs) ≤ length xs
kept_few test [] = omega arith
kept_few test (x ∷ xs) = kept_one (test x) x (filter test xs) xs (kept_few test xs)

-- the rows of one file after another
joined : {X : Type 0} (a b c d : List X) (m : ℕ) → length a + length b + length c + length d ≤ m → length (a ++ b ++ c ++ d) ≤ m
joined a b c d m h = omega (arith, length-append (a ++ b ++ c) d, length-append (a ++ b) c, length-append a b)

pub are_few : (features : Features) → AreSound features → AreFew features
are_few features sound =
    let a = length-map features.amenities (λ (row : AmenityRow). row.id) in
    let b = length-map features.anchors (λ (row : AnchorRow). row.id) in
    let c = length-map features.occupants (λ (row : OccupantRow). row.id) in
    let d = length-map features.openings (λ (row : OpeningRow). row.id) in
    let e = length-map features.relationships (λ (row : RelationshipRow). row.id) in
    let f = length-map features.units (λ (row : UnitRow). row.id) in
    let g = sound.few_features in
    record { some = omega arith }

pub few_places : (features : Features) → AreFew features → length (place_nodes features) ≤ 100000
unfolding place_nodes place_node_rows
few_places features few =
    let h = few.some in
    let a = length-map features.amenities amenity in
    let b = length-map features.anchors anchor in
    let c = length-map features.openings opening in
    let d = length-map (walkable_units features) unit in
    let e = kept_few (λ (row : UnitRow). is_walkable row.category) features.units in
    let whole = joined (map amenity features.amenities) (map anchor features.anchors) (map opening features.openings) (map unit (walkable_units features)) 100000 (omega arith) in
    let f = length-map (place_node_rows features) node_of_row in
    omega arith

pub few_closables : (features : Features) → AreFew features → length (closables features) ≤ 100000
unfolding closables
few_closables features few =
    let h = few.some in
    let a = length-map features.openings (λ (row : OpeningRow). row.id) in
    let b = length-map features.relationships (λ (row : RelationshipRow). row.id) in
    let c = length-map features.units (λ (row : UnitRow). row.id) in
    omega (arith, length-append (map (λ (row : OpeningRow). row.id) features.openings ++ map (λ (row : RelationshipRow). row.id) features.relationships) (map (λ (row : UnitRow). row.id) features.units), length-append (map (λ (row : OpeningRow). row.id) features.openings) (map (λ (row : RelationshipRow). row.id) features.relationships))

pub few_occupants : (features : Features) → AreFew features → length features.occupants ≤ 100000
few_occupants features few = let h = few.some in omega arith
