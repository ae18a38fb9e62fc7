-- The values of which the fixed form of a folder is made. The members of an object stand in the order of their names' bytes.
use Rattle.std.specs.Prelude.{ℕ, List, [], ◌∷◌, map, Option, Some, None, option_map, unwrap_or, slice_get, Bool, true, false, ℤ, codes}
use Rattle.std.specs.Fmt.{signed_decimal}
use Rattle.exact_json.specs.Json.{Json, null, number, text, items, object, Items, no_items, item, Members, no_pairs, pair}
use Rattle.geo_decimal.specs.Text.{degrees_text}
use Rattle.venue_types.specs.declared.feature_id.FeatureId.{FeatureId}
use Rattle.venue_types.specs.declared.features.Label.{Label}
use Rattle.venue_types.specs.declared.features.Ref.{Ref}
use Rattle.venue_types.specs.declared.kind.Kind.{Kind}
use Rattle.venue_types.specs.declared.kind.Kind.TheVariants as kind
use Rattle.venue_types.specs.declared.point.Point.{Point}
use Rattle.venue_types.specs.declared.point.Line.{Line}
use Rattle.venue_types.specs.declared.point.Ring.{Ring}
use Rattle.venue_types.specs.declared.point.Part.{Part}
use Rattle.venue_types.specs.declared.point.Shape.{Shape}
use Rattle.venue_types.specs.FolderFiles.{all_files, type_name}
use Rattle.venue_types.specs.Identifier.{identifier_text}

abbrev pub items_of : List Json → Items
items_of [] = no_items
items_of (v ∷ vs) = item v (items_of vs)

-- the list of the value of each
abbrev pub list_value : {A : Type 0} → (A → Json) → List A → Json
list_value value xs = items (items_of (map value xs))

-- the value of what is there, else null
abbrev pub or_null : {A : Type 0} → (A → Json) → Option A → Json
or_null value None = null
or_null value (Some x) = value x

-- the value where something holds, else null
abbrev pub if_so : Bool → Json → Json
if_so true v = v
if_so false v = null

abbrev pub id_value : FeatureId → Json
id_value id = text (identifier_text id)

-- an ordinal, without a point
abbrev pub ordinal_value : ℤ → Json
ordinal_value n = number (signed_decimal n)

-- degrees with nine digits behind the point
abbrev pub angle_value : ℤ → Json
angle_value nano = number (degrees_text nano)

-- longitude and latitude (RFC 7946, section 3.1.1)
abbrev pub position_value : Point → Json
position_value p = items (item (angle_value p.x) (item (angle_value p.y) no_items))

abbrev pub positions_value : List Point → Json
positions_value points = list_value position_value points

abbrev pub ring_value : Ring → Json
ring_value ring = positions_value ring.points

-- the border, then the holes (RFC 7946, section 3.1.6)
abbrev pub part_value : Part → Json
part_value part = list_value ring_value (part.outer ∷ part.holes)

abbrev pub geometry_value : List ℕ → Json → Json
geometry_value type coordinates =
    object (pair (codes "coordinates") coordinates (pair (codes "type") (text type) no_pairs))

abbrev pub point_value : Point → Json
point_value p = geometry_value (codes "Point") (position_value p)

abbrev pub line_value : Line → Json
line_value line = geometry_value (codes "LineString") (positions_value line.points)

-- one part is a Polygon, any other number of them a MultiPolygon
abbrev pub parts_value : List Part → Json
parts_value (part ∷ []) = geometry_value (codes "Polygon") (part_value part)
parts_value parts = geometry_value (codes "MultiPolygon") (list_value part_value parts)

abbrev pub shape_value : Shape → Json
shape_value shape = parts_value shape.parts

abbrev pub label_pairs : List Label → Members
label_pairs [] = no_pairs
label_pairs (label ∷ labels) = pair label.tag (text label.text) (label_pairs labels)

-- a name: a text for each tag, null where there is none
abbrev pub name_value : List Label → Json
name_value [] = null
name_value labels = object (label_pairs labels)

-- a list of one word where something holds, else null
abbrev pub word_list : Bool → List ℕ → Json
word_list holds word = if_so holds (items (item (text word) no_items))

abbrev pub door_value : List ℕ → Json
door_value type = object (pair (codes "type") (text type) no_pairs)

-- a door that is revolving, or else one that is a turnstile, or else none
abbrev pub door_of : Bool → Bool → Json
door_of true turnstile = door_value (codes "revolving")
door_of false turnstile = if_so turnstile (door_value (codes "turnstile"))

-- the feature type of a file's number, empty where there is no such file
abbrev pub type_numbered : ℕ → List ℕ
type_numbered n = unwrap_or (option_map type_name (slice_get all_files n)) []

abbrev pub reference_value : Ref → Json
reference_value r =
    object (pair (codes "feature_type") (text (type_numbered r.feature_type)) (pair (codes "id") (id_value r.id) no_pairs))

-- the category of a relationship: the word of the passage that it makes
abbrev pub passage_word : Option Kind → List ℕ
passage_word None = codes "none"
passage_word (Some kind.Floor) = codes "floor"
passage_word (Some kind.Elevator) = codes "elevator"
passage_word (Some kind.Escalator) = codes "escalator"
passage_word (Some kind.Movingwalkway) = codes "movingwalkway"
passage_word (Some kind.Ramp) = codes "ramp"
passage_word (Some kind.Stairs) = codes "stairs"
passage_word (Some kind.Traversal) = codes "traversal"

abbrev pub direction_word : Bool → List ℕ
direction_word true = codes "directed"
direction_word false = codes "undirected"
