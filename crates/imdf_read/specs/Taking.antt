-- What taking in a file gives. This is the code's own way and no promise.
use Rattle.std.specs.Prelude.{◌≡◌, ◌^◌, ◌-◌, ℕ, List, Option, Some, length, min, slice_get, sum_by, map, option_map, unwrap_or, []}
use Rattle.std.specs.List.{AllZip}
use Rattle.exact_json.specs.Json.{Json, HasTexts}
use Rattle.exact_json.specs.Grammar.{IsJson}
use Rattle.exact_json.specs.View.{tree_view}
use Rattle.exact_json.specs.declared.tree.Tree.{Tree}
use Rattle.std.specs.Borrow.{Bor}
use Rattle.venue_types.specs.declared.files.Slot.{Slot}
use Rattle.venue_types.specs.declared.files.Slot.TheVariants.{Absent, Held}
use Rattle.venue_types.specs.declared.finding.Finding.{Finding}
use Rattle.venue_types.specs.declared.folder_file.File.{File}
use Rattle.venue_types.specs.declared.folder_file.Geometry.{Geometry}
use Rattle.imdf_schema.specs.Contents.{IsContent, content_items, HasValue, IsLarge, IsNoText, IsDeep}
use Rattle.imdf_schema.specs.declared.rules.Rule.{Rule}
use Rattle.imdf_schema.specs.declared.rules.Rule.TheVariants.{F2, F3, F4}
use Rattle.imdf_read.specs.declared.items.Taken.{Taken}
use Rattle.imdf_rows.specs.declared.figure.Figure.{Figure}
use Rattle.imdf_rows.specs.Figures.{HasFigure}
use Rattle.imdf_read.specs.Counts.{collected, file_positions, item_positions}
use Rattle.imdf_read.specs.Gathering.{IsShort, FindsInItems, FindsInFile}

-- the figures of a file are such as its rows ask for
abbrev pub Serves : Geometry → Geometry → Type 0
Serves asked given = (v : Json) (f : Figure) → HasFigure given v f → HasFigure asked v f

-- the lists in the items are short, and their texts are UTF-8
abbrev pub AreShort : List Json → Type 0
AreShort items = (k : ℕ) (item : Json) → slice_get items k ≡ Some item → IsShort item

abbrev pub AreTexts : List Json → Type 0
AreTexts items = (k : ℕ) (item : Json) → slice_get items k ≡ Some item → HasTexts item

-- what is taken of a file's items
pub record TakesItems {Row : Type 0} (IsRow : Json → Row → Type 0) (f : File) (values : List Json) (taken : Taken Row) : Type 0 where
  pub rows : ((x : Finding) → ¬ FindsInItems f values x) → AllZip IsRow values taken.rows.items
  pub items : taken.items ≡ length values
  pub positions : taken.positions ≡ min (sum_by (item_positions f) values) (2 ^ 64 - 1)

-- what is taken of a file: of its one content
pub record Takes {Row : Type 0} (IsRow : Json → Row → Type 0) (f : File) (slot : Slot) (taken : Taken Row) : Type 0 where
  pub content : Option Json
  pub held : IsContent slot content
  pub only : (other : Option Json) → IsContent slot other → other ≡ content
  pub rows : ((x : Finding) → ¬ FindsInFile f slot x) → AllZip IsRow (content_items content) taken.rows.items
  pub items : taken.items ≡ collected content
  pub positions : taken.positions ≡ min (file_positions f content) (2 ^ 64 - 1)

-- nothing is taken
pub record TakesNothing {Row : Type 0} (taken : Taken Row) : Type 0 where
  pub rows : taken.rows.items ≡ []
  pub items : taken.items ≡ 0
  pub positions : taken.positions ≡ 0

-- the values of the trees, none where there is no list
abbrev pub trees_of : Option (Bor (List Tree)) → List Json
trees_of list = unwrap_or (option_map (λ s. map tree_view s.now) list) []

-- the file is a JSON text of this value
abbrev pub IsTextOf : Slot → Json → Type 0
IsTextOf Absent v = ⊥
IsTextOf (Held bytes) v = IsJson bytes v

-- the file has this value, and is the text of no other
pub record HasOnlyValue (slot : Slot) (v : Json) : Type 0 where
  pub has : HasValue slot v
  pub only : (w : Json) → IsTextOf slot w → w ≡ v

-- the file has no value, for the cause that the rule tells
abbrev pub HasFault : Rule → Slot → Type 0
HasFault F2 slot = IsLarge slot
HasFault F3 slot = IsNoText slot
HasFault F4 slot = IsDeep slot × ((v : Json) → ¬ HasValue slot v)
HasFault _ slot = ⊥
