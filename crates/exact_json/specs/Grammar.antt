-- The grammar of RFC 8259: which bytes spell which value.
use Rattle.std.specs.Prelude.{◌≡◌, ◌<◌, Result, Ok, Err, ℕ, List, [], ◌∷◌, ◌++◌, true, false, cond, drop, nat_eq}
use Rattle.std.specs.List.{list_all, starts_with}
use Rattle.std.specs.Str.{IsUtf8}
use Rattle.exact_json.specs.Json.{Json, null, boolean, number, text, items, object, Items, no_items, item, Members, no_pairs, pair, depth}
use Rattle.exact_json.specs.Number.{IsNumber, is_space}
use Rattle.exact_json.specs.Strings.{IsText}
use Rattle.exact_json.specs.View.{tree_view}
use Rattle.exact_json.specs.declared.tree.Tree.{Tree}
use Rattle.exact_json.specs.declared.fault.JsonFault.{JsonFault}
use Rattle.exact_json.specs.declared.fault.JsonFault.TheVariants.{Text, Deep, OutOfMemory}

abbrev pub IsSpace : List ℕ → Type 0
IsSpace b = list_all is_space b ≡ true

-- a spelling with white space on both sides
abbrev pub Padded : (List ℕ → Type 0) → List ℕ → Type 0
Padded P b = (before s after : List ℕ) × (b ≡ before ++ s ++ after) × IsSpace before × P s × IsSpace after

-- further elements, each behind a comma
abbrev pub MoreElements : List (List ℕ → Type 0) → List ℕ → Type 0
MoreElements [] b = b ≡ []
MoreElements (P ∷ Ps) b = (first rest : List ℕ) × (b ≡ 44 ∷ first ++ rest) × Padded P first × MoreElements Ps rest

-- what stands between the brackets of a list or an object: elements with commas between them, or white space alone
abbrev pub Elements : List (List ℕ → Type 0) → List ℕ → Type 0
Elements [] b = IsSpace b
Elements (P ∷ Ps) b = (first rest : List ℕ) × (b ≡ first ++ rest) × Padded P first × MoreElements Ps rest

-- member = string name-separator value (section 4)
abbrev pub IsPair : List ℕ → (List ℕ → Type 0) → List ℕ → Type 0
IsPair k P b = (name left right value : List ℕ) × (b ≡ name ++ left ++ 58 ∷ right ++ value) × IsText k name × IsSpace left × IsSpace right × P value

abbrev mutual
  -- the bytes are the value's spelling, without white space around it
  pub Spells : Json → List ℕ → Type 0
  Spells null b = b ≡ 110 ∷ 117 ∷ 108 ∷ 108 ∷ []
  Spells (boolean true) b = b ≡ 116 ∷ 114 ∷ 117 ∷ 101 ∷ []
  Spells (boolean false) b = b ≡ 102 ∷ 97 ∷ 108 ∷ 115 ∷ 101 ∷ []
  Spells (number t) b = (b ≡ t) × IsNumber t
  Spells (text s) b = IsText s b
  Spells (items js) b = (inside : List ℕ) × (b ≡ 91 ∷ inside ++ 93 ∷ []) × Elements (spellings js) inside
  Spells (object ms) b = (inside : List ℕ) × (b ≡ 123 ∷ inside ++ 125 ∷ []) × Elements (pair_spellings ms) inside

  pub spellings : Items → List (List ℕ → Type 0)
  spellings no_items = []
  spellings (item j js) = Spells j ∷ spellings js

  pub pair_spellings : Members → List (List ℕ → Type 0)
  pair_spellings no_pairs = []
  pair_spellings (pair k j ms) = IsPair k (Spells j) ∷ pair_spellings ms

-- without one byte order mark in front
abbrev pub bare : List ℕ → List ℕ
bare b = cond (starts_with nat_eq b (239 ∷ 187 ∷ 191 ∷ [])) (drop 3 b) b

-- the bytes, less a byte order mark, are a JSON text in UTF-8 (section 2), and its value is j
abbrev pub IsJson : List ℕ → Json → Type 0
IsJson b j = IsUtf8 (bare b) × Padded (Spells j) (bare b)

-- the one fault that reading may find in a text whose value is j, but for want of memory
abbrev pub Misread : Json → JsonFault → Type 0
Misread j Text = ⊥
Misread j Deep = 64 < depth j
Misread j OutOfMemory = Unit {0}

-- what is answered where the bytes spell j
abbrev pub Answers : Json → Result Tree JsonFault → Type 0
Answers j (Ok t) = tree_view t ≡ j
Answers j (Err e) = Misread j e

-- the bytes are a value and white space
abbrev pub Starts : List ℕ → Json → Type 0
Starts b j = (s z : List ℕ) × (b ≡ s ++ z) × Spells j s × IsSpace z
