-- What a body asks of a path (RFC 8259).
use Rattle.std.specs.Prelude.{◌≡◌, ℕ, Bool, ◌&&◌, ◌||◌, ◌==◌, nat_lt, nat_le, List, [], ◌∷◌, length, codes, if◌then◌else◌, Option, Some, None, option_map, option_and_then, IsUtf8}
use Rattle.std.specs.List.{list_all}
use Rattle.serde_json.specs.Data.{Data, null, array, Items, no_items, item}
use Rattle.serde_json.specs.Read.{read}
use Rattle.serde_json.specs.Find.{get, as_bool, as_str}
use Rattle.venue_types.specs.Identifier.{identifier_read}
use Rattle.venue_types.specs.declared.query.Change.{Change}
use Rattle.venue_types.specs.declared.query.Change.TheVariants.{Closure, Publish}
use Rattle.venue_wire.specs.declared.paths.Path.{Path}

-- the body is the text of this value; of equal names the last one counts
pub record IsBody (body : List ℕ) (value : Data) : Type 0 where
  pub utf8 : IsUtf8 body
  pub reads : read body ≡ Some value

-- one of `a-z 0-9 _ -`
abbrev pub is_folder_byte : ℕ → Bool
is_folder_byte byte = (((nat_le 97 byte && nat_le byte 122) || (nat_le 48 byte && nat_le byte 57)) || byte == 95) || byte == 45

-- the name of a folder: 1 to 64 of them
abbrev pub is_folder_name : List ℕ → Bool
is_folder_name name = nat_lt 0 (length name) && (nat_le (length name) 64 && list_all is_folder_byte name)

-- the text of a member
abbrev pub text_in : List ℕ → Data → Option (List ℕ)
text_in name value = option_and_then as_str (get name value)

-- the texts that these items are, if each is one
abbrev pub texts_of : Items → Option (List (List ℕ))
texts_of no_items = Some []
texts_of (item value items) = option_and_then (λ text. option_map (λ texts. text ∷ texts) (texts_of items)) (as_str value)

-- 1 to 16 texts
abbrev pub few : List (List ℕ) → Option (List (List ℕ))
few texts = if nat_lt 0 (length texts) && nat_le (length texts) 16 then Some texts else None

-- the profiles that a closure names: nobody where the member is absent or null, else those of a list of 1 to 16 texts
abbrev pub named_in : Option Data → Option (Option (List (List ℕ)))
named_in None = Some None
named_in (Some null) = Some None
named_in (Some (array items)) = option_map (λ texts. Some texts) (option_and_then few (texts_of items))
named_in (Some value) = None

-- the feature, how it is to stand, and for whom
abbrev pub closure_in : Data → Option Change
closure_in value =
    option_and_then (λ feature.
    option_and_then (λ closed.
    option_map (λ profiles. Closure (record { feature = feature; closed = closed; profiles = profiles })) (named_in (get (codes "profiles") value)))
    (option_and_then as_bool (get (codes "closed") value)))
    (option_and_then identifier_read (text_in (codes "feature") value))

-- the folder to be published
abbrev pub publish_in : Data → Option Change
publish_in value =
    option_and_then (λ folder. if is_folder_name folder then Some (Publish folder) else None) (text_in (codes "folder") value)

-- what a value asks of a path by POST; other members are passed over
abbrev pub change_in : Path → Data → Option Change
change_in Path.Version value = None
change_in Path.Places value = None
change_in Path.Closures value = closure_in value
change_in Path.Place value = None
change_in Path.Route value = None
change_in Path.Tour value = None
change_in Path.Nearest value = None
change_in Path.Publish value = publish_in value

-- the body asks this of the path
abbrev pub AsksChange : Path → List ℕ → Change → Type 0
AsksChange path body change = (value : Data) × IsBody body value × (change_in path value ≡ Some change)
