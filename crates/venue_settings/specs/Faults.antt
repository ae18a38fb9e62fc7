-- The first fault of a TOML document that is to hold settings.
use Rattle.std.specs.Prelude.{ℕ, Bool, not, List, [], ◌∷◌, ◌++◌, map, filter, Option, Some, None, option_map, option_and_then, if◌then◌else◌, codes, unwrap_or}
use Rattle.std.specs.List.{list_any, filter_map, flat_map}
use Rattle.std.specs.Str.{bytes_eq}
use Rattle.std.specs.Ordering.{nat_cmp, is_lt}
use Rattle.std.specs.Cmp.Lexicographic.{slice_cmp}
use Rattle.toml.specs.Data.{Data, Items, Members, no_members, member, get_member, as_str, as_array, as_table}
use Rattle.venue_settings.specs.declared.fault.SettingsFault.{SettingsFault}
use Rattle.venue_settings.specs.declared.fault.SettingsFault.TheVariants as fault
use Rattle.venue_settings.specs.declared.judge.Judgement.{Judgement}
use Rattle.venue_settings.specs.declared.judge.Judgement.TheVariants.{Good, WrongKind, OutOfRange}
use Rattle.venue_settings.specs.Keys.{Row, settings_rows, profile_rows}
use Rattle.venue_settings.specs.Values.{judged, list_of}

-- the first of some judgements that is a fault
abbrev pub first_of : List (Option SettingsFault) → Option SettingsFault
first_of [] = None
first_of (None ∷ more) = first_of more
first_of (Some found ∷ more) = Some found

-- the keys of a table
abbrev pub keys_in : Members → List (List ℕ)
keys_in no_members = []
keys_in (member key value more) = key ∷ keys_in more

-- the lesser of two texts by their bytes, where there is another
abbrev pub lesser : List ℕ → Option (List ℕ) → List ℕ
lesser text None = text
lesser text (Some other) = if is_lt (slice_cmp nat_cmp other text) then other else text

-- the least of some texts by their bytes
abbrev pub least : List (List ℕ) → Option (List ℕ)
least [] = None
least (text ∷ more) = Some (lesser text (least more))

-- whether the key is one of the rows
abbrev pub is_among : List Row → List ℕ → Bool
is_among rows key = list_any (λ row. bytes_eq row.name key) rows

-- the least key that is not one of the rows
abbrev pub unknown_fault : List Row → Members → Option SettingsFault
unknown_fault rows table = option_map fault.Unknown (least (filter (λ key. not (is_among rows key)) (keys_in table)))

-- what a judgement says of the value at a key
abbrev pub value_fault : List ℕ → Judgement → Option SettingsFault
value_fault key Good = None
value_fault key WrongKind = Some (fault.WrongKind key)
value_fault key OutOfRange = Some (fault.Range key)

-- what is wrong with what stands at a key
abbrev pub found_fault : Row → Option Data → Option SettingsFault
found_fault row None = if row.needed then Some (fault.Missing row.name) else None
found_fault row (Some value) = value_fault row.name (judged row.form row.low row.high value)

-- what is wrong at a key of a table
abbrev pub key_fault : Members → Row → Option SettingsFault
key_fault table row = found_fault row (get_member row.name table)

-- a table is judged by its least unknown key, then key by key
abbrev pub table_faults : List Row → Members → List (Option SettingsFault)
table_faults rows table = unknown_fault rows table ∷ map (key_fault table) rows

-- the items of a list, none where there is no list
abbrev pub items_in : Option Items → List Data
items_in None = []
items_in (Some items) = list_of items

-- the items of the list at a key
abbrev pub items_at : List ℕ → Members → List Data
items_at key table = items_in (option_and_then as_array (get_member key table))

-- the tables of the profiles
abbrev pub profile_tables : Members → List Members
profile_tables table = filter_map as_table (items_at (codes "profile") table)

-- the faults of the profiles' tables, in order
abbrev pub profile_faults : List Members → List (Option SettingsFault)
profile_faults tables = flat_map (table_faults profile_rows) tables

-- the text at a key
abbrev pub text_at : List ℕ → Members → List ℕ
text_at key table = unwrap_or (option_and_then as_str (get_member key table)) []

-- the first of some texts that stands before it, or among the earlier ones
abbrev pub first_repeated : List (List ℕ) → List (List ℕ) → Option (List ℕ)
first_repeated earlier [] = None
first_repeated earlier (text ∷ more) =
    if list_any (λ other. bytes_eq other text) earlier then Some text else first_repeated (earlier ++ text ∷ []) more

-- the names of the built-in profiles
abbrev pub built_in_names : List (List ℕ)
built_in_names = codes "walk" ∷ codes "wheelchair" ∷ []

-- the first name that an earlier profile has, the built-in ones among them
abbrev pub twice_fault : List Members → Option SettingsFault
twice_fault tables = option_map fault.Twice (first_repeated built_in_names (map (text_at (codes "name")) tables))

-- the first fault: of the settings' keys, then of each profile's, then of the names
unfoldable pub first_fault : Members → Option SettingsFault
first_fault table =
    let tables = profile_tables table in
    first_of (table_faults settings_rows table ++ (profile_faults tables ++ twice_fault tables ∷ []))
