-- The rows of one file after another, added to one list.
use Rattle.std.proofs.Common.{◌≡◌, List, [], ◌∷◌, ◌++◌, map, filter, refl, sym, ap, ap₂, ◌∙◌}
use Rattle.std.proofs.lemmas.List.{map-append}
use Rattle.venue_types.specs.declared.feature_id.FeatureId.{FeatureId}
use Rattle.venue_types.specs.declared.features.Features.{Features}
use Rattle.venue_types.specs.declared.features.AmenityRow.{AmenityRow}
use Rattle.venue_types.specs.declared.features.AnchorRow.{AnchorRow}
use Rattle.venue_types.specs.declared.features.OpeningRow.{OpeningRow}
use Rattle.venue_types.specs.declared.features.RelationshipRow.{RelationshipRow}
use Rattle.venue_types.specs.declared.features.UnitRow.{UnitRow}
use Rattle.venue_types.specs.declared.link.Node.{Node}
use Rattle.imdf_access.specs.Categories.{is_walkable}
use Rattle.venue_nodes.specs.Nodes.{amenity, anchor, opening, unit, node_of_row, place_node_rows, place_nodes, closables, walkable_units}

map_map : {X Y Z : Type 0} (f : Y → Z) (g : X → Y) (xs : List X) → map f (map g xs) ≡ map (λ x. f (g x)) xs
map_map f g [] = refl
map_map f g (x ∷ xs) = ap (λ ys. f (g x) ∷ ys) (map_map f g xs)

three_joined : {X : Type 0} (n a b d p q r : List X) → n ≡ [] → a ≡ n ++ p → b ≡ a ++ q → d ≡ b ++ r → d ≡ p ++ q ++ r
three_joined n a b d p q r none one two three = three ∙ ap (λ xs. xs ++ r) (two ∙ ap (λ xs. xs ++ q) (one ∙ ap (λ xs. xs ++ p) none))

pub closables_joined : (features : Features) (n a b d : List FeatureId) (openings : List OpeningRow) (relationships : List RelationshipRow) (units : List UnitRow)
    → openings ≡ features.openings → relationships ≡ features.relationships → units ≡ features.units → n ≡ []
    → a ≡ n ++ map (λ (row : OpeningRow). row.id) openings → b ≡ a ++ map (λ (row : RelationshipRow). row.id) relationships → d ≡ b ++ map (λ (row : UnitRow). row.id) units
    → d ≡ closables features
unfolding closables
closables_joined features n a b d openings relationships units o r u none one two three =
    three_joined n a b d _ _ _ none (one ∙ ap (λ xs. n ++ map (λ (row : OpeningRow). row.id) xs) o) (two ∙ ap (λ xs. a ++ map (λ (row : RelationshipRow). row.id) xs) r) (three ∙ ap (λ xs. b ++ map (λ (row : UnitRow). row.id) xs) u)

-- the nodes of the four files
four_files : (am : List AmenityRow) (bs : List AnchorRow) (os : List OpeningRow) (us : List UnitRow)
    → map node_of_row (map amenity am ++ map anchor bs ++ map opening os ++ map unit us)
    ≡ map (λ row. node_of_row (amenity row)) am ++ map (λ row. node_of_row (anchor row)) bs ++ map (λ row. node_of_row (opening row)) os ++ map (λ row. node_of_row (unit row)) us
four_files am bs os us =
    map-append node_of_row (map amenity am ++ map anchor bs ++ map opening os) (map unit us)
    ∙ ap₂ (λ xs ys. xs ++ ys)
    (map-append node_of_row (map amenity am ++ map anchor bs) (map opening os)
    ∙ ap₂ (λ xs ys. xs ++ ys) (map-append node_of_row (map amenity am) (map anchor bs) ∙ ap₂ (λ xs ys. xs ++ ys) (map_map node_of_row amenity am) (map_map node_of_row anchor bs)) (map_map node_of_row opening os))
    (map_map node_of_row unit us)

pub nodes_joined : (features : Features) (n a b d e : List Node) (am : List AmenityRow) (bs : List AnchorRow) (os : List OpeningRow) (us : List UnitRow)
    → am ≡ features.amenities → bs ≡ features.anchors → os ≡ features.openings → us ≡ features.units → n ≡ []
    → a ≡ n ++ map (λ row. node_of_row (amenity row)) am → b ≡ a ++ map (λ row. node_of_row (anchor row)) bs → d ≡ b ++ map (λ row. node_of_row (opening row)) os
    → e ≡ d ++ map (λ row. node_of_row (unit row)) (filter (λ (row : UnitRow). is_walkable row.category) us)
    → e ≡ place_nodes features
unfolding place_nodes place_node_rows
nodes_joined features n a b d e am bs os us p q r s none one two three four =
    let front = three_joined n a b d _ _ _ none (one ∙ ap (λ xs. n ++ map (λ row. node_of_row (amenity row)) xs) p) (two ∙ ap (λ xs. a ++ map (λ row. node_of_row (anchor row)) xs) q) (three ∙ ap (λ xs. b ++ map (λ row. node_of_row (opening row)) xs) r) in
    four
    ∙ ap₂ (λ xs ys. xs ++ ys) front (ap (λ xs. map (λ row. node_of_row (unit row)) (filter (λ (row : UnitRow). is_walkable row.category) xs)) s)
    ∙ sym (four_files features.amenities features.anchors features.openings (walkable_units features))
