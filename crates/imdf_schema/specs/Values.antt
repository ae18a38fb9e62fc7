-- What a JSON value is, and what it has. A member that is absent is null.
pub use Rattle.geo_shapes.specs.Values.{listed}
use Rattle.std.specs.Prelude.{ℕ, List, [], Option, Some, None, Bool, true, false, is_some, option_map, option_and_then, unwrap_or}
use Rattle.std.specs.Borrow.{Bor}
use Rattle.std.specs.List.{list_all}
use Rattle.std.specs.Str.{bytes_eq}
use Rattle.venue_types.specs.declared.feature_id.FeatureId.{FeatureId}
use Rattle.venue_types.specs.Identifier.{identifier_read}
use Rattle.exact_json.specs.Json.{Json, null, text_bytes, list_values, object_members, members_list, member}
use Rattle.exact_json.specs.View.{tree_view}
use Rattle.exact_json.specs.declared.tree.Tree.{Tree}

-- the value of a tree, and null where there is none
abbrev pub seen : Option (Bor Tree) → Json
seen tree = unwrap_or (option_map (λ t. tree_view t.now) tree) null

abbrev pub is_null : Json → Bool
is_null null = true
is_null _ = false

abbrev pub is_object : Json → Bool
is_object v = is_some (object_members v)

abbrev pub is_list : Json → Bool
is_list v = is_some (list_values v)

abbrev pub is_text : Json → Bool
is_text v = is_some (text_bytes v)

-- whether the bytes are there, and are those of the word
abbrev pub are_bytes : Option (List ℕ) → List ℕ → Bool
are_bytes None word = false
are_bytes (Some bytes) word = bytes_eq bytes word

-- whether it is the text of this word
abbrev pub is_word : Json → List ℕ → Bool
is_word v word = are_bytes (text_bytes v) word

-- its pairs of a name and a value, none where it is no object
abbrev pub pairs_of : Json → List (List ℕ × Json)
pairs_of v = unwrap_or (option_map members_list (object_members v)) []

-- the identifier that it is: a text of one of the four forms of a UUID
abbrev pub id_of : Json → Option FeatureId
id_of v = option_and_then identifier_read (text_bytes v)

abbrev pub is_id : Json → Bool
is_id v = is_some (id_of v)

-- whether what counts of each of its names, the last pair, is a text
abbrev pub has_texts : Json → Bool
has_texts v = list_all (λ p. is_text (member v p.0)) (pairs_of v)
