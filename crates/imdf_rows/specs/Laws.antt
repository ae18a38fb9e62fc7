-- What holds of every row, whatever its item.
use Rattle.std.specs.Prelude.{◌≡◌, ◌≢◌, ◌↔◌, ℕ, List, Option, Some, option_and_then, map, All, Contains, IsTrue}
use Rattle.std.specs.List.{AllByRecursion}
use Rattle.std.specs.List.Sorted.{IsStrictlySortedBy}
use Rattle.std.specs.Cmp.Lexicographic.{slice_cmp}
use Rattle.std.specs.Ordering.{nat_cmp}
use Rattle.std.specs.Str.{IsUtf8}
use Rattle.exact_json.specs.Json.{Json, HasTexts, last_member, object_members}
use Rattle.venue_types.specs.declared.files.Files.{Files}
use Rattle.venue_types.specs.declared.features.Features.{Features}
use Rattle.venue_types.specs.declared.features.Label.{Label}
use Rattle.venue_types.specs.declared.features.OpeningRow.{OpeningRow}
use Rattle.venue_types.specs.declared.features.RelationshipRow.{RelationshipRow}
use Rattle.venue_types.specs.declared.kind.Kind.TheVariants as kind
use Rattle.imdf_schema.specs.Items.{items_in}
use Rattle.imdf_rows.specs.Fields.{text_field, labels_field}
use Rattle.imdf_rows.specs.Folder.{AreFeatures}

-- the texts of a pair of a name and a value are UTF-8
abbrev pub PairHasTexts : List ℕ × Json → Type 0
PairHasTexts pair = IsUtf8 pair.0 × HasTexts pair.1

-- where those of a feature file are, so are those of its items
abbrev pub ItemsOfTexts : Type 0
ItemsOfTexts = (v : Json) → HasTexts v → AllByRecursion HasTexts (items_in v)

-- the tags of labels ascend strictly, by their bytes
abbrev pub TagsAscend : List Label → Type 0
TagsAscend labels = IsStrictlySortedBy (slice_cmp nat_cmp) (map (λ x. x.tag) labels)

-- the last value that an object has by this name, if it has one
abbrev pub last_value : Json → List ℕ → Option Json
last_value v name = option_and_then (last_member name) (object_members v)

-- the label's tag is a member of the name, whose last value is its text
abbrev pub IsLabelOf : Json → Label → Type 0
IsLabelOf v x = (last : Json) × (last_value v x.tag ≡ Some last) × (text_field last ≡ x.text)

-- the labels of a name
pub record AreLabelsOf (v : Json) (labels : List Label) : Type 0 where
  pub ascend : TagsAscend labels
  pub exact : (x : Label) → Contains labels x ↔ IsLabelOf v x

-- a name has its labels
abbrev pub HasItsLabels : Type 0
HasItsLabels = (v : Json) → AreLabelsOf v (labels_field v)

-- the tags of each row ascend
pub record AllTagsAscend (features : Features) : Type 0 where
  pub amenities : All (λ row. TagsAscend row.name) features.amenities
  pub occupants : All (λ row. TagsAscend row.name) features.occupants
  pub units : All (λ row. TagsAscend row.name) features.units

-- a door isn't both revolving and a turnstile
abbrev pub IsOneDoor : OpeningRow → Type 0
IsOneDoor row = ¬ (IsTrue row.revolving × IsTrue row.turnstile)

-- a relationship makes a passage or is told as none: no passage is a floor
abbrev pub IsPassageOrNone : RelationshipRow → Type 0
IsPassageOrNone row = row.kind ≢ Some kind.Floor

-- in the rows of files the tags of labels ascend
abbrev pub TagsOfRows : Type 0
TagsOfRows = (files : Files) (features : Features) → AreFeatures files features → AllTagsAscend features

-- no door of them is both
abbrev pub DoorsOfRows : Type 0
DoorsOfRows = (files : Files) (features : Features) → AreFeatures files features → All IsOneDoor features.openings

-- each of their relationships makes a passage or none
abbrev pub PassagesOfRows : Type 0
PassagesOfRows = (files : Files) (features : Features) → AreFeatures files features → All IsPassageOrNone features.relationships
