-- The values of a row's fields are spelled by their compact texts.
use Rattle.std.proofs.Common.{◌≡◌, ℕ, suc, Bool, true, false, List, [], ◌∷◌, ◌++◌, Option, Some, None, refl, sym, ap, ◌∙◌, subst, arith, ℤ, pos, codes}
use Rattle.std.specs.Prelude.{All, IfSome, neg_ℤ, ◌≤ℤ◌, ◌*ℤ◌}
use Rattle.std.specs.List.{flat_map}
use Rattle.std.specs.Str.{IsUtf8}
use Rattle.std.specs.Fmt.{signed_decimal}
use Rattle.std.proofs.lemmas.Str.{IsUtf8-from_ascii}
use Rattle.std.proofs.lemmas.List.Elements.{All-nil, All-cons, All-head, All-tail}
use Rattle.exact_json.specs.Json.{Json, text, items, no_items, item, no_pairs, pair}
use Rattle.exact_json.specs.Number.{IsNumber}
use Rattle.geo_decimal.specs.Value.{IsNano, IsWithin}
use Rattle.geo_decimal.specs.Text.{degrees_text}
use Rattle.geo_decimal.proofs.ReadBack.{read_back}
use Rattle.geo_shapes.specs.Numbers.{SameNumbers}
use Rattle.venue_types.specs.declared.feature_id.FeatureId.{FeatureId}
use Rattle.venue_types.specs.declared.features.Label.{Label}
use Rattle.venue_types.specs.declared.features.Ref.{Ref}
use Rattle.venue_types.specs.declared.kind.Kind.{Kind}
use Rattle.venue_types.specs.declared.kind.Kind.TheVariants as kind
use Rattle.venue_types.specs.declared.folder_file.File.{File}
use Rattle.venue_types.specs.declared.folder_file.File.TheVariants as file
use Rattle.venue_types.specs.declared.point.Point.{Point}
use Rattle.venue_types.specs.declared.point.Line.{Line}
use Rattle.venue_types.specs.declared.point.Ring.{Ring}
use Rattle.venue_types.specs.declared.point.Part.{Part}
use Rattle.venue_types.specs.declared.point.Shape.{Shape}
use Rattle.venue_types.specs.Identifier.{identifier_text}
use Rattle.venue_types.specs.FolderFiles.{file_number, type_name}
use Rattle.venue_types.proofs.IdentifierLemmas.{identifier_text-ascii}
use Rattle.plane_exact.specs.Figure.{rings_of, ring_points}
use Rattle.imdf_read.specs.Sound.{IsOnEarth}
use Rattle.imdf_write.specs.Values.{list_value, or_null, id_value, ordinal_value, angle_value, position_value, positions_value, ring_value, part_value, geometry_value, point_value, line_value, parts_value, shape_value, label_pairs, name_value, word_list, door_value, door_of, type_numbered, reference_value, passage_word, direction_word}
use Rattle.writing_law.specs.Fit.{FitsRef, FitsLabel, FitsLine, FitsShape}
use Rattle.writing_law.specs.Spelled.{IsSpelled, HasSpelled}
use Rattle.writing_law.proofs.Ascii.{word_utf8}
use Rattle.writing_law.proofs.Figures.{all_front, all_rest, quarter_within, points_apart}
use Rattle.writing_law.proofs.Ordinals.{nano_back}
use Rattle.writing_law.proofs.Spelled.{deeper, null_spelled, text_spelled, number_spelled, no_items_spelled, item_spelled, items_spelled, no_pairs_spelled, pair_spelled, object_spelled, list_spelled, or_null_spelled, if_so_spelled}

pub id_spelled : (n : ℕ) (id : FeatureId) → IsSpelled n (id_value id)
id_spelled n id = text_spelled n (identifier_text id) (IsUtf8-from_ascii (identifier_text id) (identifier_text-ascii id))

every_id : (ids : List FeatureId) → All (λ id. Unit {0}) ids
every_id ids = λ k d h. tt

pub ids_spelled : (n : ℕ) (ids : List FeatureId) → IsSpelled (suc n) (list_value id_value ids)
ids_spelled n ids = list_spelled (λ id. Unit {0}) n id_value (λ id any. id_spelled n id) ids (every_id ids)

pub id_or_null_spelled : (n : ℕ) (id : Option FeatureId) → IsSpelled n (or_null id_value id)
id_or_null_spelled n None = null_spelled n
id_or_null_spelled n (Some id) = id_spelled n id

-- a token of a value is a number token
token_is : SameNumbers → (t : List ℕ) (v : ℤ) → IsNano t v → IsNumber t
token_is same t v nano = (same t).1 (nano.number, nano.spelled)

pub ordinal_spelled : SameNumbers → (n : ℕ) (ordinal : ℤ) → neg_ℤ (pos 180) ≤ℤ ordinal → ordinal ≤ℤ pos 180 → IsSpelled n (ordinal_value ordinal)
ordinal_spelled same n ordinal low high = number_spelled n (signed_decimal ordinal) (token_is same (signed_decimal ordinal) (ordinal *ℤ pos 1000000000) (nano_back ordinal low high))

angle_spelled : SameNumbers → (n : ℕ) (nano : ℤ) → IsWithin nano → IsSpelled n (angle_value nano)
angle_spelled same n nano within = number_spelled n (degrees_text nano) (token_is same (degrees_text nano) nano (read_back nano within))

position_spelled : SameNumbers → (n : ℕ) (p : Point) → IsOnEarth p → IsSpelled (suc n) (position_value p)
position_spelled same n p earth =
    items_spelled n (item (angle_value p.x) (item (angle_value p.y) no_items))
    (item_spelled n (angle_value p.x) (item (angle_value p.y) no_items) (angle_spelled same n p.x (earth.west, earth.east))
    (item_spelled n (angle_value p.y) no_items (angle_spelled same n p.y (quarter_within p.y earth.south earth.north)) (no_items_spelled n)))

positions_spelled : SameNumbers → (n : ℕ) (ps : List Point) → All IsOnEarth ps → IsSpelled (suc (suc n)) (positions_value ps)
positions_spelled same n ps earth = list_spelled IsOnEarth (suc n) position_value (position_spelled same n) ps earth

-- the positions of each ring are on the earth
abbrev IsRingOnEarth : Ring → Type 0
IsRingOnEarth ring = All IsOnEarth ring.points

rings_on_earth : (all : List Ring) → All IsOnEarth (ring_points all) → All IsRingOnEarth all
rings_on_earth [] earth = All-nil IsRingOnEarth
rings_on_earth (ring ∷ all) earth =
    All-cons IsRingOnEarth ring all (all_front IsOnEarth ring.points (ring_points all) earth) (rings_on_earth all (all_rest IsOnEarth ring.points (ring_points all) earth))

-- those of each polygon
abbrev IsPartOnEarth : Part → Type 0
IsPartOnEarth part = All IsOnEarth (ring_points (rings_of part))

parts_on_earth : (parts : List Part) → All IsOnEarth (ring_points (flat_map rings_of parts)) → All IsPartOnEarth parts
parts_on_earth [] earth = All-nil IsPartOnEarth
parts_on_earth (part ∷ parts) earth =
    let apart : All IsOnEarth (ring_points (rings_of part) ++ ring_points (flat_map rings_of parts)) = subst (All IsOnEarth) (points_apart part parts) earth in
    All-cons IsPartOnEarth part parts (all_front IsOnEarth (ring_points (rings_of part)) (ring_points (flat_map rings_of parts)) apart)
    (parts_on_earth parts (all_rest IsOnEarth (ring_points (rings_of part)) (ring_points (flat_map rings_of parts)) apart))

part_spelled : SameNumbers → (part : Part) → IsPartOnEarth part → IsSpelled 3 (part_value part)
part_spelled same part earth = list_spelled IsRingOnEarth 2 ring_value (λ ring here. positions_spelled same 0 ring.points here) (part.outer ∷ part.holes) (rings_on_earth (part.outer ∷ part.holes) earth)

-- a geometry is two deeper than a position
geometry_spelled : (n : ℕ) (type : List ℕ) (v : Json) → IsUtf8 type → IsSpelled n v → IsSpelled (suc n) (geometry_value type v)
geometry_spelled n type v name h =
    object_spelled n (pair (codes "coordinates") v (pair (codes "type") (text type) no_pairs))
    (pair_spelled n (codes "coordinates") v (pair (codes "type") (text type) no_pairs) (word_utf8 (codes "coordinates") refl) h
    (pair_spelled n (codes "type") (text type) no_pairs (word_utf8 (codes "type") refl) (text_spelled n type name) (no_pairs_spelled n)))

pub point_spelled : SameNumbers → (p : Point) → IsOnEarth p → IsSpelled 2 (point_value p)
point_spelled same p earth = geometry_spelled 1 (codes "Point") (position_value p) (word_utf8 (codes "Point") refl) (position_spelled same 0 p earth)

pub line_spelled : SameNumbers → (line : Line) → FitsLine line → IsSpelled 3 (line_value line)
line_spelled same line fits = geometry_spelled 2 (codes "LineString") (positions_value line.points) (word_utf8 (codes "LineString") refl) (positions_spelled same 0 line.points fits.points)

several_spelled : SameNumbers → (parts : List Part) → All IsPartOnEarth parts → IsSpelled 5 (geometry_value (codes "MultiPolygon") (list_value part_value parts))
several_spelled same parts earth = geometry_spelled 4 (codes "MultiPolygon") (list_value part_value parts) (word_utf8 (codes "MultiPolygon") refl) (list_spelled IsPartOnEarth 3 part_value (part_spelled same) parts earth)

figure_spelled : SameNumbers → (parts : List Part) → All IsPartOnEarth parts → IsSpelled 5 (parts_value parts)
figure_spelled same [] earth = several_spelled same [] earth
figure_spelled same (part ∷ []) earth = deeper 4 5 (parts_value (part ∷ [])) (omega arith)
    (geometry_spelled 3 (codes "Polygon") (part_value part) (word_utf8 (codes "Polygon") refl) (part_spelled same part (All-head IsPartOnEarth part [] earth)))
figure_spelled same (part ∷ next ∷ parts) earth = several_spelled same (part ∷ next ∷ parts) earth

pub shape_spelled : SameNumbers → (shape : Shape) → FitsShape shape → IsSpelled 5 (shape_value shape)
shape_spelled same shape fits = figure_spelled same shape.parts (parts_on_earth shape.parts fits.points)

pub display_spelled : SameNumbers → (display : Option Point) → IfSome display IsOnEarth → IsSpelled 2 (or_null point_value display)
display_spelled same display earth = or_null_spelled IsOnEarth 2 point_value (point_spelled same) display earth

labels_spelled : (n : ℕ) (labels : List Label) → All FitsLabel labels → HasSpelled n (label_pairs labels)
labels_spelled n [] fits = no_pairs_spelled n
labels_spelled n (x ∷ labels) fits =
    let here : FitsLabel x = All-head FitsLabel x labels fits in
    pair_spelled n x.tag (text x.text) (label_pairs labels) here.tag (text_spelled n x.text here.text) (labels_spelled n labels (All-tail FitsLabel x labels fits))

pub name_spelled : (n : ℕ) (labels : List Label) → All FitsLabel labels → IsSpelled (suc n) (name_value labels)
name_spelled n [] fits = null_spelled (suc n)
name_spelled n (x ∷ labels) fits = object_spelled n (label_pairs (x ∷ labels)) (labels_spelled n (x ∷ labels) fits)

pub word_list_spelled : (n : ℕ) (holds : Bool) (word : List ℕ) → IsUtf8 word → IsSpelled (suc n) (word_list holds word)
word_list_spelled n holds word name =
    if_so_spelled (suc n) holds (items (item (text word) no_items)) (items_spelled n (item (text word) no_items) (item_spelled n (text word) no_items (text_spelled n word name) (no_items_spelled n)))

door_value_spelled : (n : ℕ) (type : List ℕ) → IsUtf8 type → IsSpelled (suc n) (door_value type)
door_value_spelled n type name =
    object_spelled n (pair (codes "type") (text type) no_pairs) (pair_spelled n (codes "type") (text type) no_pairs (word_utf8 (codes "type") refl) (text_spelled n type name) (no_pairs_spelled n))

pub door_spelled : (n : ℕ) (revolving turnstile : Bool) → IsSpelled (suc n) (door_of revolving turnstile)
door_spelled n true turnstile = door_value_spelled n (codes "revolving") (word_utf8 (codes "revolving") refl)
door_spelled n false turnstile = if_so_spelled (suc n) turnstile (door_value (codes "turnstile")) (door_value_spelled n (codes "turnstile") (word_utf8 (codes "turnstile") refl))

pub type_name_utf8 : (f : File) → IsUtf8 (type_name f)
type_name_utf8 file.Manifest = word_utf8 (codes "manifest") refl
type_name_utf8 file.Address = word_utf8 (codes "address") refl
type_name_utf8 file.Amenity = word_utf8 (codes "amenity") refl
type_name_utf8 file.Anchor = word_utf8 (codes "anchor") refl
type_name_utf8 file.Building = word_utf8 (codes "building") refl
type_name_utf8 file.Detail = word_utf8 (codes "detail") refl
type_name_utf8 file.Fixture = word_utf8 (codes "fixture") refl
type_name_utf8 file.Footprint = word_utf8 (codes "footprint") refl
type_name_utf8 file.Geofence = word_utf8 (codes "geofence") refl
type_name_utf8 file.Kiosk = word_utf8 (codes "kiosk") refl
type_name_utf8 file.Level = word_utf8 (codes "level") refl
type_name_utf8 file.Occupant = word_utf8 (codes "occupant") refl
type_name_utf8 file.Opening = word_utf8 (codes "opening") refl
type_name_utf8 file.Relationship = word_utf8 (codes "relationship") refl
type_name_utf8 file.Section = word_utf8 (codes "section") refl
type_name_utf8 file.Unit = word_utf8 (codes "unit") refl
type_name_utf8 file.Venue = word_utf8 (codes "venue") refl

-- the type of a file's number
numbered : (f : File) → type_numbered (file_number f) ≡ type_name f
numbered file.Manifest = refl
numbered file.Address = refl
numbered file.Amenity = refl
numbered file.Anchor = refl
numbered file.Building = refl
numbered file.Detail = refl
numbered file.Fixture = refl
numbered file.Footprint = refl
numbered file.Geofence = refl
numbered file.Kiosk = refl
numbered file.Level = refl
numbered file.Occupant = refl
numbered file.Opening = refl
numbered file.Relationship = refl
numbered file.Section = refl
numbered file.Unit = refl
numbered file.Venue = refl

ref_spelled : (n : ℕ) (r : Ref) → FitsRef r → IsSpelled (suc n) (reference_value r)
ref_spelled n r fits =
    let type = type_numbered r.feature_type in
    let named : type_numbered r.feature_type ≡ type_name fits.target = ap type_numbered fits.number ∙ numbered fits.target in
    object_spelled n (pair (codes "feature_type") (text type) (pair (codes "id") (id_value r.id) no_pairs))
    (pair_spelled n (codes "feature_type") (text type) (pair (codes "id") (id_value r.id) no_pairs) (word_utf8 (codes "feature_type") refl) (text_spelled n type (subst IsUtf8 (sym named) (type_name_utf8 fits.target)))
    (pair_spelled n (codes "id") (id_value r.id) no_pairs (word_utf8 (codes "id") refl) (id_spelled n r.id) (no_pairs_spelled n)))

pub ref_or_null_spelled : (n : ℕ) (r : Option Ref) → IfSome r FitsRef → IsSpelled (suc n) (or_null reference_value r)
ref_or_null_spelled n r fits = or_null_spelled FitsRef (suc n) reference_value (ref_spelled n) r fits

pub refs_spelled : (n : ℕ) (rs : List Ref) → All FitsRef rs → IsSpelled (suc (suc n)) (list_value reference_value rs)
refs_spelled n rs fits = list_spelled FitsRef (suc n) reference_value (ref_spelled n) rs fits

passage_word_utf8 : (passage : Option Kind) → IsUtf8 (passage_word passage)
passage_word_utf8 None = word_utf8 (codes "none") refl
passage_word_utf8 (Some kind.Floor) = word_utf8 (codes "floor") refl
passage_word_utf8 (Some kind.Elevator) = word_utf8 (codes "elevator") refl
passage_word_utf8 (Some kind.Escalator) = word_utf8 (codes "escalator") refl
passage_word_utf8 (Some kind.Movingwalkway) = word_utf8 (codes "movingwalkway") refl
passage_word_utf8 (Some kind.Ramp) = word_utf8 (codes "ramp") refl
passage_word_utf8 (Some kind.Stairs) = word_utf8 (codes "stairs") refl
passage_word_utf8 (Some kind.Traversal) = word_utf8 (codes "traversal") refl

pub passage_spelled : (n : ℕ) (passage : Option Kind) → IsSpelled n (text (passage_word passage))
passage_spelled n passage = text_spelled n (passage_word passage) (passage_word_utf8 passage)

pub direction_spelled : (n : ℕ) (directed : Bool) → IsSpelled n (text (direction_word directed))
direction_spelled n true = text_spelled n (codes "directed") (word_utf8 (codes "directed") refl)
direction_spelled n false = text_spelled n (codes "undirected") (word_utf8 (codes "undirected") refl)
