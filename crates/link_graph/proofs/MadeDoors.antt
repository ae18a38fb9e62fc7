-- What is known of nodes, as it is made.
use Rattle.std.proofs.Common.{◌≡◌, ℕ, zero, suc, ◌+◌, ◌-◌, ◌<◌, Bool, true, false, List, [], ◌∷◌, ◌++◌, Option, Some, None, map, filter, flat_map, replicate, length, drop, get_or, refl, sym, ap, ap₂, ◌∙◌, arith, ◌≤◌, append_assoc, append-nil}
use Rattle.std.specs.Prelude.{slice_get}
use Rattle.std.specs.Option.{option_map}
use Rattle.std.proofs.Math.Seq.{drop-nil}
use Rattle.std.proofs.lemmas.List.{length-map, map-append, drop_all}
use Rattle.std.proofs.lemmas.Option.{slice_get-map, same_Some}
use Rattle.venue_types.specs.declared.feature_id.FeatureId.{FeatureId}
use Rattle.venue_types.specs.declared.features.Features.{Features}
use Rattle.venue_types.specs.declared.features.AmenityRow.{AmenityRow}
use Rattle.venue_types.specs.declared.features.AnchorRow.{AnchorRow}
use Rattle.venue_types.specs.declared.features.OpeningRow.{OpeningRow}
use Rattle.venue_types.specs.declared.features.UnitRow.{UnitRow}
use Rattle.venue_types.specs.declared.link.Node.{Node}
use Rattle.venue_types.specs.declared.point.Point.{Point}
use Rattle.venue_types.specs.declared.settings.Inside.{Inside}
use Rattle.venue_types.specs.declared.settings.Settings.{Settings}
use Rattle.imdf_access.specs.Access.{elsewhere}
use Rattle.imdf_access.specs.Categories.{is_walkable}
use Rattle.imdf_access.specs.Parts.{end_facts}
use Rattle.venue_nodes.specs.declared.corner_nodes.CornerRange.{CornerRange}
use Rattle.venue_nodes.specs.declared.nodes.Nodes.{Nodes}
use Rattle.venue_nodes.specs.Nodes.{NodeRow, amenity, anchor, opening, unit, corner, node_of_row, place_node_rows, place_nodes, room_corners, corner_points, corner_rows, corner_rows_from, node_rows, nodes, walkable_units}
use Rattle.venue_nodes.specs.Views.{HaveCorners, corner_ranges, ranges_from}
use Rattle.venue_nodes.proofs.CornerSteps.{ahead, past}
use Rattle.venue_nodes.proofs.Items.{four_passes, from_map}
use Rattle.link_graph.specs.declared.parts.Door.{Door}
use Rattle.link_graph.specs.Cores.{asks_of}
use Rattle.link_graph.specs.Facts.{end_of, end_at}
use Rattle.link_graph.specs.Making.{copies_at, copies_by, door_of, id_of_row}

abbrev walks : UnitRow → Bool
walks row = is_walkable row.category

pub doors_joined : (features : Features) (find : FeatureId → Option ℕ) (am : List AmenityRow) (bs : List AnchorRow) (os : List OpeningRow) (us : List UnitRow) (n a b d e : List Door)
    → n ≡ [] → am ≡ features.amenities → bs ≡ features.anchors → os ≡ features.openings → us ≡ features.units
    → a ≡ n ++ map (λ row. door_of find (amenity row)) am → b ≡ a ++ map (λ row. door_of find (anchor row)) bs → d ≡ b ++ map (λ row. door_of find (opening row)) os
    → e ≡ d ++ map (λ row. door_of find (unit row)) (filter walks us)
    → e ≡ map (door_of find) (place_node_rows features)
unfolding place_node_rows
doors_joined features find am bs os us n a b d e none p q r s one two three four =
    four_passes (door_of find) amenity anchor opening unit features.amenities am features.anchors bs features.openings os (walkable_units features) (filter walks us) n a b d e
    none p q r (ap (filter walks) s) one two three four

-- ---- corners

-- what is known of a corner is what is known of its unit
corners_same : (find : FeatureId → Option ℕ) (row : UnitRow) (n : ℕ) (points : List Point) → replicate (length points) (door_of find (unit row)) ≡ map (door_of find) (corner_rows_from row n points)
corners_same find row n [] = refl
corners_same find row n (p ∷ points) = ap (λ (ds : List Door). door_of find (unit row) ∷ ds) (corners_same find row (n + 1) points)

abbrev pub unit_doors : (FeatureId → Option ℕ) → List UnitRow → List Door
unit_doors find units = map (λ (row : UnitRow). door_of find (unit row)) units

abbrev counts_of : Inside → List UnitRow → List ℕ
counts_of inside units = map (λ (row : UnitRow). length (corner_points inside row)) units

copies_same : (find : FeatureId → Option ℕ) (inside : Inside) (at : ℕ) (units : List UnitRow) → copies_by (ranges_from at (counts_of inside units)) (unit_doors find units) ≡ map (door_of find) (flat_map (corner_rows inside) units)
copies_same find inside at [] = refl
copies_same find inside at (u ∷ units) =
    let many : at + length (corner_points inside u) - at ≡ length (corner_points inside u) = omega arith in
    let rest = copies_by (ranges_from (at + length (corner_points inside u)) (counts_of inside units)) (unit_doors find units) in
    ap (λ (n : ℕ). replicate n (door_of find (unit u)) ++ rest) many
    ∙ ap₂ (λ (ds es : List Door). ds ++ es) (corners_same find u 1 (corner_points inside u)) (copies_same find inside (at + length (corner_points inside u)) units)
    ∙ sym (map-append (door_of find) (corner_rows inside u) (flat_map (corner_rows inside) units))

-- those of the places and those of the corners are those of the nodes
pub doors_all : (features : Features) (settings : Settings) (nodes : Nodes) (find : FeatureId → Option ℕ) (places doors : List Door) (us : List UnitRow) → HaveCorners features settings nodes → us ≡ features.units
    → places ≡ map (door_of find) (place_node_rows features) → doors ≡ places ++ copies_by (corner_ranges nodes) (unit_doors find (filter walks us)) → doors ≡ map (door_of find) (node_rows features settings)
unfolding node_rows room_corners
doors_all features settings nodes find places doors us are whole front back =
    let ways = walkable_units features in
    back
    ∙ ap₂ (λ (ds es : List Door). ds ++ es) front
    (ap₂ (λ (ranges : List CornerRange) (rows : List UnitRow). copies_by ranges (unit_doors find rows)) are.ranges (ap (filter walks) whole)
    ∙ copies_same find settings.inside (length (place_nodes features)) ways)
    ∙ sym (map-append (door_of find) (place_node_rows features) (flat_map (corner_rows settings.inside) ways))

-- ---- copies, unit by unit

copies_next : (ranges : List CornerRange) (w : ℕ) (door : Door) (doors : List Door) → copies_by (drop w ranges) (door ∷ doors) ≡ copies_at ranges w door ++ copies_by (drop (suc w) ranges) doors
copies_next [] w door doors = ap (λ (rs : List CornerRange). copies_by rs (door ∷ doors)) (drop-nil w)
copies_next (r ∷ ranges) zero door doors = refl
copies_next (r ∷ ranges) (suc w) door doors = copies_next ranges w door doors

copies_ahead : (ranges : List CornerRange) (w : ℕ) (door : Door) (doors : List Door) → copies_by (drop w ranges) (door ∷ doors) ≡ copies_at ranges w door ++ copies_by (drop (w + 1) ranges) doors
copies_ahead ranges w door doors =
    let next : suc w ≡ w + 1 = omega arith in
    copies_next ranges w door doors ∙ ap (λ (n : ℕ). copies_at ranges w door ++ copies_by (drop n ranges) doors) next

-- what is ahead of so many units and ranges
abbrev pub copies_left : (FeatureId → Option ℕ) → List CornerRange → ℕ → List UnitRow → ℕ → List Door
copies_left find ranges w units i = copies_by (drop w ranges) (unit_doors find (filter walks (drop i units)))

-- a unit that can be walked through takes a range
pub copies_step : (find : FeatureId → Option ℕ) (ranges : List CornerRange) (w : ℕ) (units : List UnitRow) (i : ℕ) (row d : UnitRow) (before after all : List Door) → i < length units → get_or units i d ≡ row → walks row ≡ true
    → after ≡ before ++ copies_at ranges w (door_of find (unit row)) → before ++ copies_left find ranges w units i ≡ all → after ++ copies_left find ranges (w + 1) units (i + 1) ≡ all
copies_step find ranges w units i row d before after all within at walked added whole =
    let rest = copies_left find ranges (w + 1) units (i + 1) in
    ap (λ (ds : List Door). ds ++ rest) added
    ∙ append_assoc before (copies_at ranges w (door_of find (unit row))) rest
    ∙ ap (λ (ds : List Door). before ++ ds) (sym (ap (λ (us : List UnitRow). copies_by (drop w ranges) (unit_doors find us)) (ahead units i row d within at walked) ∙ copies_ahead ranges w (door_of find (unit row)) (unit_doors find (filter walks (drop (i + 1) units)))))
    ∙ whole

-- another takes none
pub copies_past : (find : FeatureId → Option ℕ) (ranges : List CornerRange) (w : ℕ) (units : List UnitRow) (i : ℕ) (row d : UnitRow) (before after all : List Door) → i < length units → get_or units i d ≡ row → walks row ≡ false
    → after ≡ before → before ++ copies_left find ranges w units i ≡ all → after ++ copies_left find ranges w units (i + 1) ≡ all
copies_past find ranges w units i row d before after all within at solid same whole =
    ap (λ (ds : List Door). ds ++ copies_left find ranges w units (i + 1)) same
    ∙ ap (λ (us : List UnitRow). before ++ copies_by (drop w ranges) (unit_doors find us)) (sym (past units i row d within at solid))
    ∙ whole

-- behind the last nothing is left
pub copies_done : (find : FeatureId → Option ℕ) (ranges : List CornerRange) (w : ℕ) (units : List UnitRow) (i : ℕ) (doors all : List Door) → length units ≤ i → doors ++ copies_left find ranges w units i ≡ all → doors ≡ all
copies_done find ranges w units i doors all end whole =
    sym (append-nil doors)
    ∙ ap (λ (ds : List Door). doors ++ ds) (sym (ap (λ (us : List UnitRow). copies_by (drop w ranges) (unit_doors find (filter walks us))) (drop_all i units end) ∙ none (drop w ranges)))
    ∙ whole
  where
    none : (rs : List CornerRange) → copies_by rs [] ≡ []
    none [] = refl
    none (s ∷ rs) = refl

-- ---- what nodes ask

asks_same : (find : FeatureId → Option ℕ) (o : Option NodeRow) → asks_of (option_map (door_of find) o) ≡ end_facts (elim o [ None ↦ elsewhere | Some row ↦ end_of row ])
asks_same find None = refl
asks_same find (Some row) = refl

pub asks_are : (features : Features) (settings : Settings) (find : FeatureId → Option ℕ) (doors : List Door) (n : ℕ) → doors ≡ map (door_of find) (node_rows features settings) → asks_of (slice_get doors n) ≡ end_facts (end_at features settings n)
asks_are features settings find doors n e =
    ap (λ (ds : List Door). asks_of (slice_get ds n)) e
    ∙ ap asks_of (slice_get-map (door_of find) (node_rows features settings) n)
    ∙ asks_same find (slice_get (node_rows features settings) n)

-- ---- whose they are

pub doors_many : (features : Features) (settings : Settings) (find : FeatureId → Option ℕ) (doors : List Door) (list : List Node) → doors ≡ map (door_of find) (node_rows features settings) → list ≡ nodes features settings → length doors ≡ length list
unfolding nodes
doors_many features settings find doors list e same =
    ap (λ (ds : List Door). length ds) e
    ∙ length-map (node_rows features settings) (door_of find)
    ∙ sym (length-map (node_rows features settings) node_of_row)
    ∙ ap (λ (ns : List Node). length ns) (sym same)

row_id : (row : NodeRow) → id_of_row row ≡ (node_of_row row).id
row_id (amenity row) = refl
row_id (anchor row) = refl
row_id (opening row) = refl
row_id (unit row) = refl
row_id (corner row n p) = refl

pub door_own : (features : Features) (settings : Settings) (find : FeatureId → Option ℕ) (doors : List Door) (list : List Node) (n : ℕ) (node : Node) (door : Door) → doors ≡ map (door_of find) (node_rows features settings) → list ≡ nodes features settings
    → slice_get list n ≡ Some node → slice_get doors n ≡ Some door → door.closable ≡ find node.id
unfolding nodes
door_own features settings find doors list n node door e same at there =
    let of_node = from_map node_of_row (node_rows features settings) n node (ap (λ (ns : List Node). slice_get ns n) (sym same) ∙ at) in
    let of_door = from_map (door_of find) (node_rows features settings) n door (ap (λ (ds : List Door). slice_get ds n) (sym e) ∙ there) in
    let one : of_door.0 ≡ of_node.0 = same_Some of_door.0 of_node.0 (sym of_door.1 ∙ of_node.1) in
    ap (λ (d : Door). d.closable) (sym of_door.2)
    ∙ ap (λ (row : NodeRow). find (id_of_row row)) one
    ∙ ap find (row_id of_node.0)
    ∙ ap (λ (m : Node). find m.id) of_node.2
