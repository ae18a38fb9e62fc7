-- What values of a TOML document are good at a key (TOML 1.1).
use Rattle.std.specs.Prelude.{ℕ, ℤ, pos, negsuc, Bool, true, false, List, [], ◌∷◌, length, Option, Some, None, is_some, option_and_then, codes, nat_le, ◌&&◌, ◌||◌, ◌==◌, if◌then◌else◌}
use Rattle.std.specs.List.{list_all}
use Rattle.std.specs.Option.{option_map_or}
use Rattle.std.specs.Str.{bytes_eq}
use Rattle.toml.specs.Data.{Data, Items, no_items, item, as_integer, as_str, as_bool, as_array, as_table}
use Rattle.venue_types.specs.declared.settings.Inside.{Inside}
use Rattle.venue_types.specs.declared.settings.Inside.TheVariants.{Straight, Clear}
use Rattle.venue_settings.specs.declared.judge.Judgement.{Judgement}
use Rattle.venue_settings.specs.declared.judge.Judgement.TheVariants.{Good, WrongKind, OutOfRange}
use Rattle.venue_settings.specs.declared.keys.Form.{Form}
use Rattle.venue_settings.specs.declared.keys.Form.TheVariants.{Whole, StaffKeys, Profiles, Name, Truth, Inside as Crossing}

-- from the least to the greatest, both among them
abbrev pub is_between : ℕ → ℕ → ℕ → Bool
is_between least greatest n = nat_le least n && nat_le n greatest

-- the items of an array
abbrev pub list_of : Items → List Data
list_of no_items = []
list_of (item d ds) = d ∷ list_of ds

-- good where the range is kept, if it is of the right kind at all
abbrev pub judgement : Bool → Bool → Judgement
judgement right_kind in_range = if right_kind then (if in_range then Good else OutOfRange) else WrongKind

-- how the items of an array are judged; another value is of the wrong kind
abbrev pub on_list : (List Data → Judgement) → Option Items → Judgement
on_list judges None = WrongKind
on_list judges (Some items) = judges (list_of items)

-- a whole number within the range
abbrev pub is_whole_between : ℕ → ℕ → ℤ → Bool
is_whole_between least greatest (pos n) = is_between least greatest n
is_whole_between least greatest (negsuc n) = false

-- how a value is judged where a whole number is asked for
abbrev pub judged_whole : ℕ → ℕ → Data → Judgement
judged_whole least greatest value =
    judgement (is_some (as_integer value)) (option_map_or (is_whole_between least greatest) (as_integer value) false)

-- 8 to 128 visible characters of ASCII (VCHAR of RFC 5234, appendix B.1)
abbrev pub is_staff_key : List ℕ → Bool
is_staff_key text = is_between 8 128 (length text) && list_all (is_between 0x21 0x7E) text

-- whether a value is a text
abbrev pub is_text : Data → Bool
is_text value = is_some (as_str value)

-- whether a value is a text that is a staff key
abbrev pub holds_staff_key : Data → Bool
holds_staff_key value = option_map_or is_staff_key (as_str value) false

-- how items are judged as staff keys: texts, neither too few nor too many, each a staff key
abbrev pub judged_staff_list : ℕ → ℕ → List Data → Judgement
judged_staff_list least greatest values =
    judgement (list_all is_text values) (is_between least greatest (length values) && list_all holds_staff_key values)

-- how a value is judged where a list of staff keys is asked for
abbrev pub judged_staff_keys : ℕ → ℕ → Data → Judgement
judged_staff_keys least greatest value = on_list (judged_staff_list least greatest) (as_array value)

-- whether a value is a table
abbrev pub is_table : Data → Bool
is_table value = is_some (as_table value)

-- how items are judged as profiles: tables, neither too few nor too many
abbrev pub judged_profile_list : ℕ → ℕ → List Data → Judgement
judged_profile_list least greatest values = judgement (list_all is_table values) (is_between least greatest (length values))

-- how a value is judged where a list of profiles is asked for
abbrev pub judged_profiles : ℕ → ℕ → Data → Judgement
judged_profiles least greatest value = on_list (judged_profile_list least greatest) (as_array value)

-- a byte of `a-z 0-9 _ -`
abbrev pub is_name_byte : ℕ → Bool
is_name_byte byte = ((is_between 97 122 byte || is_between 48 57 byte) || byte == 95) || byte == 45

-- a text that may name a profile
abbrev pub is_name : ℕ → ℕ → List ℕ → Bool
is_name least greatest text = is_between least greatest (length text) && list_all is_name_byte text

-- how a value is judged where a profile's name is asked for
abbrev pub judged_name : ℕ → ℕ → Data → Judgement
judged_name least greatest value =
    judgement (is_some (as_str value)) (option_map_or (is_name least greatest) (as_str value) false)

-- how a value is judged where a truth value is asked for
abbrev pub judged_truth : Data → Judgement
judged_truth value = judgement (is_some (as_bool value)) true

-- how rooms are crossed, by its word
abbrev pub inside_of : List ℕ → Option Inside
inside_of text = if bytes_eq text (codes "straight") then Some Straight else (if bytes_eq text (codes "clear") then Some Clear else None)

-- how a value is judged where such a word is asked for
abbrev pub judged_inside : Data → Judgement
judged_inside value = judgement (is_some (as_str value)) (is_some (option_and_then inside_of (as_str value)))

-- how a value is judged at a key of this form and range
abbrev pub judged : Form → ℕ → ℕ → Data → Judgement
judged Whole least greatest value = judged_whole least greatest value
judged StaffKeys least greatest value = judged_staff_keys least greatest value
judged Profiles least greatest value = judged_profiles least greatest value
judged Name least greatest value = judged_name least greatest value
judged Truth least greatest value = judged_truth value
judged Crossing least greatest value = judged_inside value
