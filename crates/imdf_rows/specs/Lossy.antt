-- The labels of a name, with U+FFFD for what isn't UTF-8 in a tag or a text.
use Rattle.std.specs.Prelude.{ℕ, List, [], ◌∷◌, String}
use Rattle.std.specs.Global.{Global}
use Rattle.std.specs.String.{string_bytes}
use Rattle.std.specs.Str.Lossy.{utf8_lossy}
use Rattle.std.specs.Cmp.Lexicographic.{slice_cmp}
use Rattle.std.specs.Ordering.{nat_cmp}
use Rattle.std.specs.BTreeMap.{insert_entry}
use Rattle.exact_json.specs.Json.{Json}
use Rattle.imdf_rows.specs.Fields.{text_field}

-- a tag and a text as bytes
abbrev pub entry_bytes : String Global × String Global → List ℕ × List ℕ
entry_bytes entry = (string_bytes entry.0, string_bytes entry.1)

abbrev pub with_lossy : List (List ℕ × List ℕ) → List ℕ × Json → List (List ℕ × List ℕ)
with_lossy texts pair = insert_entry (slice_cmp nat_cmp) texts (utf8_lossy pair.0) (utf8_lossy (text_field pair.1))

abbrev pub all_lossy : List (List ℕ × List ℕ) → List (List ℕ × Json) → List (List ℕ × List ℕ)
all_lossy texts [] = texts
all_lossy texts (pair ∷ pairs) = all_lossy (with_lossy texts pair) pairs
