-- Which number and which identifier each feature of a building has. Features stand in the order of files, and of places within
-- a file, and the first has number 1. Levels are counted from 0, the lowest first.
use Rattle.std.specs.Prelude.{ℕ, zero, suc, ◌+◌, ◌-◌, ◌*◌, ◌/◌, ◌%◌, List, [], ◌∷◌, ◌++◌, codes}

-- ---- how many features each file has, where the building has so many levels

abbrev pub level_count : ℕ → ℕ
level_count levels = levels

-- the doors of a level: a hundred of rooms, one of its lift, one of its stairs
abbrev pub opening_count : ℕ → ℕ
opening_count levels = 102 * levels

-- a lift and stairs from each level to the next
abbrev pub relationship_count : ℕ → ℕ
relationship_count levels = 2 * (levels - 1)

-- the units of a level: its corridor, a hundred rooms, its lift, its stairs
abbrev pub unit_count : ℕ → ℕ
unit_count levels = 103 * levels

-- ---- the number of the first feature of each file

abbrev pub first_level : ℕ
first_level = 1

abbrev pub first_opening : ℕ → ℕ
first_opening levels = first_level + level_count levels

abbrev pub first_relationship : ℕ → ℕ
first_relationship levels = first_opening levels + opening_count levels

abbrev pub first_unit : ℕ → ℕ
first_unit levels = first_relationship levels + relationship_count levels

-- the venue is one feature, the last
abbrev pub venue_number : ℕ → ℕ
venue_number levels = first_unit levels + unit_count levels

-- ---- the number of each feature, by its level and its place on that level

abbrev pub level_number : ℕ → ℕ
level_number level = first_level + level

abbrev pub opening_number : ℕ → ℕ → ℕ → ℕ
opening_number levels level place = first_opening levels + 102 * level + place

-- the place is that of the level from which the way leads up
abbrev pub relationship_number : ℕ → ℕ → ℕ → ℕ
relationship_number levels level place = first_relationship levels + 2 * level + place

abbrev pub unit_number : ℕ → ℕ → ℕ → ℕ
unit_number levels level place = first_unit levels + 103 * level + place

-- ---- the places on a level, from 0

-- the openings: of the rooms in their order, of the lift, of the stairs
abbrev pub room_opening : ℕ → ℕ
room_opening room = room

abbrev pub lift_opening : ℕ
lift_opening = 100

abbrev pub stairs_opening : ℕ
stairs_opening = 101

-- the relationships: of the lift, of the stairs
abbrev pub lift_relationship : ℕ
lift_relationship = 0

abbrev pub stairs_relationship : ℕ
stairs_relationship = 1

-- the units: the corridor, the rooms in their order, the lift, the stairs
abbrev pub corridor_unit : ℕ
corridor_unit = 0

abbrev pub room_unit : ℕ → ℕ
room_unit room = 1 + room

abbrev pub lift_unit : ℕ
lift_unit = 101

abbrev pub stairs_unit : ℕ
stairs_unit = 102

-- ---- how a number is spelled

-- a number in so many decimal digits, with zeros in front
unfoldable pub padded : ℕ → ℕ → List ℕ
padded zero n = []
padded (suc width) n = padded width (n / 10) ++ (48 + n % 10) ∷ []

-- the identifier of the feature of a number: a fixed front, and the number in twelve digits
unfoldable pub identifier : ℕ → List ℕ
identifier number = codes "00000000-0000-4000-8000-" ++ padded 12 number
