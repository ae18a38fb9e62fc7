-- A JSON value: null, a truth value, a number as its token, a text, a list of values, or a list of pairs of a name and a value.
use Rattle.std.specs.Prelude.{ℕ, suc, max, List, [], ◌∷◌, Bool, cond, Option, Some, None, option_map, unwrap_or, ◌≤◌, length}
use Rattle.std.specs.Str.{bytes_eq, IsUtf8}

mutual
  pub data Json : Type 0 where
    null : Json
    number : List ℕ → Json
    boolean : Bool → Json
    text : List ℕ → Json
    object : Members → Json
    items : Items → Json

  pub data Items : Type 0 where
    no_items : Items
    item : Json → Items → Items

  pub data Members : Type 0 where
    no_pairs : Members
    pair : List ℕ → Json → Members → Members

-- the values in order
abbrev pub items_list : Items → List Json
items_list no_items = []
items_list (item j js) = j ∷ items_list js

-- the pairs in order
abbrev pub members_list : Members → List (List ℕ × Json)
members_list no_pairs = []
members_list (pair k j ms) = (k, j) ∷ members_list ms

-- 0 for a scalar; for a list or an object one more than the greatest depth in it
abbrev mutual
  pub depth : Json → ℕ
  depth null = 0
  depth (number t) = 0
  depth (boolean b) = 0
  depth (text s) = 0
  depth (object ms) = suc (members_depth ms)
  depth (items js) = suc (items_depth js)

  pub items_depth : Items → ℕ
  items_depth no_items = 0
  items_depth (item j js) = max (depth j) (items_depth js)

  pub members_depth : Members → ℕ
  members_depth no_pairs = 0
  members_depth (pair k j ms) = max (depth j) (members_depth ms)

-- the first that is there
abbrev pub first_of_two : Option Json → Option Json → Option Json
first_of_two (Some j) o = Some j
first_of_two None o = o

-- the value of the last pair of that name
abbrev pub last_member : List ℕ → Members → Option Json
last_member name no_pairs = None
last_member name (pair k j ms) = first_of_two (last_member name ms) (cond (bytes_eq k name) (Some j) None)

-- the value of the last pair of that name, and null where there is none
abbrev pub member : Json → List ℕ → Json
member null name = null
member (number t) name = null
member (boolean b) name = null
member (text s) name = null
member (object ms) name = unwrap_or (last_member name ms) null
member (items js) name = null

-- the truth value that it is
abbrev pub truth : Json → Option Bool
truth (boolean b) = Some b
truth _ = None

-- the token of the number that it is
abbrev pub token : Json → Option (List ℕ)
token (number t) = Some t
token _ = None

-- the bytes of the text that it is
abbrev pub text_bytes : Json → Option (List ℕ)
text_bytes (text s) = Some s
text_bytes _ = None

-- the items of the list that it is
abbrev pub list_items : Json → Option Items
list_items (items js) = Some js
list_items _ = None

-- the values of the list that it is, in order
abbrev pub list_values : Json → Option (List Json)
list_values j = option_map items_list (list_items j)

-- the members of the object that it is
abbrev pub object_members : Json → Option Members
object_members (object ms) = Some ms
object_members _ = None

-- no list or object in it has more than n items
abbrev mutual
  pub IsNarrow : ℕ → Json → Type 0
  IsNarrow n null = Unit {0}
  IsNarrow n (number t) = Unit {0}
  IsNarrow n (boolean b) = Unit {0}
  IsNarrow n (text s) = Unit {0}
  IsNarrow n (object ms) = (length (members_list ms) ≤ n) × HasNarrow n ms
  IsNarrow n (items js) = (length (items_list js) ≤ n) × AreNarrow n js

  pub AreNarrow : ℕ → Items → Type 0
  AreNarrow n no_items = Unit {0}
  AreNarrow n (item j js) = IsNarrow n j × AreNarrow n js

  pub HasNarrow : ℕ → Members → Type 0
  HasNarrow n no_pairs = Unit {0}
  HasNarrow n (pair k j ms) = IsNarrow n j × HasNarrow n ms

-- each text in it, names too, is UTF-8
abbrev mutual
  pub HasTexts : Json → Type 0
  HasTexts null = Unit {0}
  HasTexts (number t) = Unit {0}
  HasTexts (boolean b) = Unit {0}
  HasTexts (text s) = IsUtf8 s
  HasTexts (object ms) = MembersHaveTexts ms
  HasTexts (items js) = ItemsHaveTexts js

  pub ItemsHaveTexts : Items → Type 0
  ItemsHaveTexts no_items = Unit {0}
  ItemsHaveTexts (item j js) = HasTexts j × ItemsHaveTexts js

  pub MembersHaveTexts : Members → Type 0
  MembersHaveTexts no_pairs = Unit {0}
  MembersHaveTexts (pair k j ms) = IsUtf8 k × HasTexts j × MembersHaveTexts ms

-- the token of each number in it is so
abbrev mutual
  pub AllNumbers : (List ℕ → Type 0) → Json → Type 0
  AllNumbers P null = Unit {0}
  AllNumbers P (number t) = P t
  AllNumbers P (boolean b) = Unit {0}
  AllNumbers P (text s) = Unit {0}
  AllNumbers P (object ms) = AllMemberNumbers P ms
  AllNumbers P (items js) = AllItemNumbers P js

  pub AllItemNumbers : (List ℕ → Type 0) → Items → Type 0
  AllItemNumbers P no_items = Unit {0}
  AllItemNumbers P (item j js) = AllNumbers P j × AllItemNumbers P js

  pub AllMemberNumbers : (List ℕ → Type 0) → Members → Type 0
  AllMemberNumbers P no_pairs = Unit {0}
  AllMemberNumbers P (pair k j ms) = AllNumbers P j × AllMemberNumbers P ms
