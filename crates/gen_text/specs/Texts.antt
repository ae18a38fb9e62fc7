-- The text of a building's files: a folder that has neither white space nor line ends.
use Rattle.std.specs.Prelude.{ℕ, ◌+◌, ◌-◌, ◌*◌, ℤ, ◌-ℤ◌, pos, List, [], ◌∷◌, ◌++◌, map, flat_map, codes}
use Rattle.std.specs.List.{range_with_len, join_with_byte}
use Rattle.std.specs.Fmt.{signed_decimal}
use Rattle.venue_types.specs.declared.files.Files.{Files}
use Rattle.venue_types.specs.declared.files.Slot.{Slot}
use Rattle.venue_types.specs.declared.files.Slot.TheVariants.{Absent, Held}
use Rattle.gen_text.specs.declared.geometry.Place.{Place}
use Rattle.gen_text.specs.Geometry.{at_place, box_text, line_text}
use Rattle.gen_text.specs.Numbers.{level_number, opening_number, relationship_number, unit_number, venue_number, room_opening, lift_opening, stairs_opening, lift_relationship, stairs_relationship, corridor_unit, room_unit, lift_unit, stairs_unit, identifier}

-- ---- the parts of a feature

-- the front of a feature of a type, by its number, up to its geometry
unfoldable pub item_front : List ℕ → ℕ → List ℕ
item_front feature_type number =
    codes "{\"type\":\"Feature\",\"id\":\"" ++ identifier number
    ++ codes "\",\"feature_type\":\"" ++ feature_type
    ++ codes "\",\"geometry\":"

-- a feature, with its geometry and its properties
unfoldable pub item : List ℕ → ℕ → List ℕ → List ℕ → List ℕ
item feature_type number geometry properties =
    item_front feature_type number ++ geometry
    ++ codes ",\"properties\":" ++ properties
    ++ codes "}"

-- the ordinal of a level, which is negative below level 100
unfoldable pub ordinal : ℕ → ℤ
ordinal level = pos level -ℤ pos 100

unfoldable pub level_properties : ℕ → List ℕ
level_properties level = codes "{\"ordinal\":" ++ signed_decimal (ordinal level) ++ codes "}"

unfoldable pub opening_properties : ℕ → List ℕ
opening_properties level = codes "{\"level_id\":\"" ++ identifier (level_number level) ++ codes "\"}"

unfoldable pub unit_properties : ℕ → List ℕ → List ℕ
unit_properties level category =
    codes "{\"level_id\":\"" ++ identifier (level_number level)
    ++ codes "\",\"category\":\"" ++ category
    ++ codes "\"}"

-- the feature of a type, by its number, as a relationship names it
unfoldable pub reference : List ℕ → ℕ → List ℕ
reference feature_type number =
    codes "{\"id\":\"" ++ identifier number
    ++ codes "\",\"feature_type\":\"" ++ feature_type
    ++ codes "\"}"

-- a passage either way between two features of one type
unfoldable pub relationship_properties : List ℕ → List ℕ → ℕ → ℕ → List ℕ
relationship_properties category feature_type origin destination =
    codes "{\"category\":\"" ++ category
    ++ codes "\",\"direction\":\"undirected\",\"origin\":" ++ reference feature_type origin
    ++ codes ",\"destination\":" ++ reference feature_type destination
    ++ codes "}"

-- the outline of the building, which each level fills
abbrev pub outline : List ℕ
outline = box_text (at_place 0 0) (at_place 400 18)

-- ---- the features of a level

-- the rooms of a level
unfoldable pub rooms : List ℕ
rooms = range_with_len 0 100

unfoldable pub level_item : ℕ → List ℕ
level_item level = item (codes "level") (level_number level) outline (level_properties level)

unfoldable pub opening_item : ℕ → ℕ → ℕ → Place → Place → List ℕ
opening_item levels level place from to =
    item (codes "opening") (opening_number levels level place) (line_text from to) (opening_properties level)

unfoldable pub room_opening_item : ℕ → ℕ → ℕ → List ℕ
room_opening_item levels level room =
    opening_item levels level (room_opening room) (at_place (4 * room + 1) 10) (at_place (4 * room + 3) 10)

unfoldable pub opening_items : ℕ → ℕ → List (List ℕ)
opening_items levels level =
    map (room_opening_item levels level) rooms
    ++ opening_item levels level lift_opening (at_place 1 14) (at_place 3 14)
    ∷ opening_item levels level stairs_opening (at_place 397 14) (at_place 399 14)
    ∷ []

unfoldable pub unit_item : ℕ → ℕ → ℕ → List ℕ → Place → Place → List ℕ
unit_item levels level place category from to =
    item (codes "unit") (unit_number levels level place) (box_text from to) (unit_properties level category)

unfoldable pub room_unit_item : ℕ → ℕ → ℕ → List ℕ
room_unit_item levels level room =
    unit_item levels level (room_unit room) (codes "room") (at_place (4 * room) 0) (at_place (4 * room + 4) 10)

unfoldable pub unit_items : ℕ → ℕ → List (List ℕ)
unit_items levels level =
    unit_item levels level corridor_unit (codes "walkway") (at_place 0 10) (at_place 400 14)
    ∷ map (room_unit_item levels level) rooms
    ++ unit_item levels level lift_unit (codes "elevator") (at_place 0 14) (at_place 4 18)
    ∷ unit_item levels level stairs_unit (codes "stairs") (at_place 396 14) (at_place 400 18)
    ∷ []

-- ---- the ways from a level to the next, and the venue

-- a relationship has no geometry
unfoldable pub relationship_item : ℕ → ℕ → ℕ → List ℕ → List ℕ
relationship_item levels level place properties = item (codes "relationship") (relationship_number levels level place) (codes "null") properties

-- the lifts of a level and the next, the lower level first
unfoldable pub lift_relationship_item : ℕ → ℕ → List ℕ
lift_relationship_item levels level =
    relationship_item levels level lift_relationship
    (relationship_properties (codes "elevator") (codes "unit") (unit_number levels level lift_unit) (unit_number levels (level + 1) lift_unit))

-- the openings of the stairs of a level and the next, the lower level first
unfoldable pub stairs_relationship_item : ℕ → ℕ → List ℕ
stairs_relationship_item levels level =
    relationship_item levels level stairs_relationship
    (relationship_properties (codes "stairs") (codes "opening") (opening_number levels level stairs_opening) (opening_number levels (level + 1) stairs_opening))

unfoldable pub relationship_items : ℕ → ℕ → List (List ℕ)
relationship_items levels level = lift_relationship_item levels level ∷ stairs_relationship_item levels level ∷ []

unfoldable pub venue_item : ℕ → List ℕ
venue_item levels = item (codes "venue") (venue_number levels) outline (codes "{}")

-- ---- the files

abbrev pub manifest_text : List ℕ
manifest_text = codes "{\"version\":\"1.0.0\",\"created\":\"\",\"language\":\"en\"}"

-- what a file of features begins with
unfoldable pub collection_front : List ℕ
collection_front = codes "{\"type\":\"FeatureCollection\",\"features\":["

-- the text of a file of features, which are parted by commas
unfoldable pub collection : List (List ℕ) → List ℕ
collection items = collection_front ++ join_with_byte 44 items ++ codes "]}"

-- a type without features has no file
abbrev pub feature_file : List (List ℕ) → Slot
feature_file [] = Absent
feature_file (item ∷ items) = Held (collection (item ∷ items))

-- the numbers of so many levels
abbrev pub levels_from_0 : ℕ → List ℕ
levels_from_0 levels = range_with_len 0 levels

-- the seventeen files of a building of so many levels, in the order of their numbers
unfoldable pub building_files : ℕ → Files
building_files levels = record {
  slots =
      Held manifest_text
      -- address, amenity, anchor, building, detail, fixture, footprint, geofence, kiosk
      ∷ Absent ∷ Absent ∷ Absent ∷ Absent ∷ Absent ∷ Absent ∷ Absent ∷ Absent ∷ Absent
      -- level, occupant, opening
      ∷ feature_file (map level_item (levels_from_0 levels))
      ∷ Absent
      ∷ feature_file (flat_map (opening_items levels) (levels_from_0 levels))
      -- relationship, section, unit, venue
      ∷ feature_file (flat_map (relationship_items levels) (levels_from_0 (levels - 1)))
      ∷ Absent
      ∷ feature_file (flat_map (unit_items levels) (levels_from_0 levels))
      ∷ feature_file (venue_item levels ∷ [])
      ∷ [];
}
