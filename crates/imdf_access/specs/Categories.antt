-- What a category of a unit or of a relationship means (IMDF 1.0.0, its lists of categories). The part before the first dot decides.
use Rattle.std.specs.Prelude.{ℕ, List, [], ◌∷◌, Bool, true, false, not, ◌==◌, if◌then◌else◌, Option, Some, None, codes}
use Rattle.std.specs.List.{before_first}
use Rattle.std.specs.Str.{bytes_eq}
use Rattle.venue_types.specs.declared.kind.Kind.{Kind}
use Rattle.venue_types.specs.declared.kind.Kind.TheVariants as kinds
use Rattle.imdf_access.specs.declared.meaning.Meaning.{Meaning}
use Rattle.imdf_access.specs.declared.meaning.Meaning.TheVariants.{Elevator, Escalator, Movingwalkway, Ramp, Stairs, Steps, Traversal, Ground, Solid, Unknown}

-- each word, and what it stands for
abbrev pub words : List (List ℕ × Meaning)
words =
    (codes "elevator", Elevator)
    ∷ (codes "escalator", Escalator)
    ∷ (codes "movingwalkway", Movingwalkway)
    ∷ (codes "ramp", Ramp)
    ∷ (codes "stairs", Stairs)
    ∷ (codes "steps", Steps)
    ∷ (codes "traversal", Traversal)
    ∷ (codes "walkway", Ground)
    ∷ (codes "room", Ground)
    ∷ (codes "restroom", Ground)
    ∷ (codes "lobby", Ground)
    ∷ (codes "platform", Ground)
    ∷ (codes "nonpublic", Ground)
    ∷ (codes "opentobelow", Solid)
    ∷ (codes "column", Solid)
    ∷ (codes "brick", Solid)
    ∷ (codes "concrete", Solid)
    ∷ (codes "drywall", Solid)
    ∷ (codes "glass", Solid)
    ∷ (codes "wood", Solid)
    ∷ (codes "structure", Solid)
    ∷ (codes "vegetation", Solid)
    ∷ []

-- what a word stands for among such rows
abbrev pub meaning_among : List (List ℕ × Meaning) → List ℕ → Meaning
meaning_among [] word = Unknown
meaning_among (row ∷ rows) word = if bytes_eq row.0 word then row.1 else meaning_among rows word

-- the bytes before the first dot
abbrev pub before_dot : List ℕ → List ℕ
before_dot bytes = before_first (λ byte. byte == 46) bytes

-- what a category stands for
unfoldable pub meaning_of : List ℕ → Meaning
meaning_of category = meaning_among words (before_dot category)

-- whether nobody walks through
abbrev pub is_solid : Meaning → Bool
is_solid Solid = true
is_solid _ = false

-- whether it is said of units
abbrev pub is_of_units : Meaning → Bool
is_of_units Traversal = false
is_of_units Unknown = false
is_of_units _ = true

-- the kind of a link inside a unit of this meaning
abbrev pub kind_inside : Meaning → Kind
kind_inside Elevator = kinds.Elevator
kind_inside Escalator = kinds.Escalator
kind_inside Movingwalkway = kinds.Movingwalkway
kind_inside Ramp = kinds.Ramp
kind_inside Stairs = kinds.Stairs
kind_inside Steps = kinds.Stairs
kind_inside _ = kinds.Floor

-- the kind of a link by a relationship of this meaning, if it makes links
abbrev pub kind_between : Meaning → Option Kind
kind_between Elevator = Some kinds.Elevator
kind_between Escalator = Some kinds.Escalator
kind_between Movingwalkway = Some kinds.Movingwalkway
kind_between Ramp = Some kinds.Ramp
kind_between Stairs = Some kinds.Stairs
kind_between Traversal = Some kinds.Traversal
kind_between _ = None

-- whether a unit of the category can be walked through: unless it is known to be solid
unfoldable pub is_walkable : List ℕ → Bool
is_walkable category = not (is_solid (meaning_of category))

-- whether the category is a known one of units
unfoldable pub is_known_unit : List ℕ → Bool
is_known_unit category = is_of_units (meaning_of category)

-- the kind of a link inside a unit of the category
unfoldable pub unit_kind_of : List ℕ → Kind
unit_kind_of category = kind_inside (meaning_of category)

-- the passage that a relationship of the category makes
unfoldable pub passage_of : List ℕ → Option Kind
passage_of category = kind_between (meaning_of category)
