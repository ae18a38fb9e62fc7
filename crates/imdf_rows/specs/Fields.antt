-- What a field of a row is taken from. Where a member isn't of its form, an identifier is 0, and a text or a list is empty.
use Rattle.std.specs.Prelude.{◌≡◌, ℕ, List, [], ◌∷◌, Option, Some, None, Bool, unwrap_or, map, pos, ℤ, ◌*ℤ◌, codes}
use Rattle.std.specs.List.{filter_map, list_any}
use Rattle.std.specs.Str.{bytes_eq}
use Rattle.std.specs.Cmp.Lexicographic.{slice_cmp}
use Rattle.std.specs.Ordering.{nat_cmp}
use Rattle.std.specs.BTreeMap.{insert_entry}
use Rattle.exact_json.specs.Json.{Json, text_bytes, token, member}
use Rattle.geo_decimal.specs.Value.{IsNano, IsWithin}
use Rattle.geo_shapes.specs.Geometry.{HasPoint}
use Rattle.venue_types.specs.declared.feature_id.FeatureId.{FeatureId}
use Rattle.venue_types.specs.declared.features.Label.{Label}
use Rattle.venue_types.specs.declared.features.Ref.{Ref}
use Rattle.venue_types.specs.declared.kind.Kind.{Kind}
use Rattle.venue_types.specs.declared.point.Point.{Point}
use Rattle.imdf_access.specs.Categories.{before_dot, passage_of}
use Rattle.venue_types.specs.declared.folder_file.File.{File}
use Rattle.venue_types.specs.FolderFiles.{file_number}
use Rattle.imdf_schema.specs.Values.{is_word, listed, pairs_of, id_of}
use Rattle.imdf_schema.specs.Forms.{type_of}

abbrev pub id_field : Json → FeatureId
id_field v = unwrap_or (id_of v) (record { 0 = 0 })

abbrev pub text_field : Json → List ℕ
text_field v = unwrap_or (text_bytes v) []

-- the identifiers of a list
abbrev pub ids_field : Json → List FeatureId
ids_field v = filter_map id_of (listed v)

-- a reference of an identifier to a feature of a file
abbrev pub ref_to : FeatureId → File → Ref
ref_to id file = record { id = id; feature_type = file_number file }

abbrev pub ref_of_both : Option FeatureId → Option File → Option Ref
ref_of_both (Some id) (Some file) = Some (ref_to id file)
ref_of_both _ _ = None

-- the reference that an object is
abbrev pub ref_of : Json → Option Ref
ref_of v = ref_of_both (id_of (member v (codes "id"))) (type_of (member v (codes "feature_type")))

-- the references of a list
abbrev pub refs_field : Json → List Ref
refs_field v = filter_map ref_of (listed v)

-- a text put in by its name, in place of an earlier one of that name, in ascending order of the names' bytes
abbrev pub with_text : List (List ℕ × List ℕ) → List ℕ × Json → List (List ℕ × List ℕ)
with_text texts pair = insert_entry (slice_cmp nat_cmp) texts pair.0 (text_field pair.1)

abbrev pub with_texts : List (List ℕ × List ℕ) → List (List ℕ × Json) → List (List ℕ × List ℕ)
with_texts texts [] = texts
with_texts texts (pair ∷ pairs) = with_texts (with_text texts pair) pairs

abbrev pub label : List ℕ × List ℕ → Label
label entry = record { tag = entry.0; text = entry.1 }

-- the labels of a name, in ascending order of their tags' bytes, each tag once, with the last text of equal tags
abbrev pub labels_field : Json → List Label
labels_field v = map label (with_texts [] (pairs_of v))

-- whether the word stands in a list
abbrev pub lists_word : Json → List ℕ → Bool
lists_word v word = list_any (λ item. is_word item word) (listed v)

-- whether the type of a door, before its first dot, is the word
abbrev pub door_is : Json → List ℕ → Bool
door_is door word = bytes_eq (before_dot (text_field (member door (codes "type")))) word

-- the passage that a category makes
abbrev pub passage_field : Json → Option Kind
passage_field v = passage_of (text_field v)

-- the display point: the point that it stands for, none where it stands for none
abbrev pub IsDisplay : Json → Option Point → Type 0
IsDisplay v None = (point : Point) → ¬ HasPoint v point
IsDisplay v (Some point) = HasPoint v point

-- a number is a whole one: its value, rounded to billionths as nanodegrees are, is a multiple of 10^9, and at most 180 * 10^9 away from 0
pub record IsWhole (token : List ℕ) (n : ℤ) : Type 0 where
  pub nano : IsNano token (n *ℤ pos 1000000000)
  pub within : IsWithin (n *ℤ pos 1000000000)

-- an ordinal: a number that is whole after rounding to billionths, from -180 to 180
pub record IsOrdinal (v : Json) (n : ℤ) : Type 0 where
  pub digits : List ℕ
  pub number : token v ≡ Some digits
  pub whole : IsWhole digits n
