-- What a file of a folder holds.
use Rattle.std.specs.Prelude.{◌≡◌, ◌<◌, ◌≤◌, ◌^◌, List, [], Option, Some, None, length, slice_get}
use Rattle.exact_json.specs.Json.{Json, depth}
use Rattle.exact_json.specs.Grammar.{IsJson}
use Rattle.venue_types.specs.declared.files.Files.{Files}
use Rattle.venue_types.specs.declared.files.Slot.{Slot}
use Rattle.venue_types.specs.declared.files.Slot.TheVariants.{Absent, Held}
use Rattle.venue_types.specs.declared.folder_file.File.{File}
use Rattle.venue_types.specs.FolderFiles.{file_number}
use Rattle.imdf_schema.specs.Items.{items_in}

-- the file is there, and has more than 33,554,432 bytes
abbrev pub IsLarge : Slot → Type 0
IsLarge Absent = ⊥
IsLarge (Held bytes) = 2 ^ 25 < length bytes

-- it isn't large, and is no JSON text (RFC 8259)
abbrev pub IsNoText : Slot → Type 0
IsNoText Absent = ⊥
IsNoText (Held bytes) = (length bytes ≤ 2 ^ 25) × ((v : Json) → ¬ IsJson bytes v)

-- it isn't large, and is a JSON text in which lists and objects nest more than 64 deep
abbrev pub IsDeep : Slot → Type 0
IsDeep Absent = ⊥
IsDeep (Held bytes) = (length bytes ≤ 2 ^ 25) × ((v : Json) × IsJson bytes v × (64 < depth v))

-- it isn't large, and is a JSON text of this value, which nests at most 64 deep
abbrev pub HasValue : Slot → Json → Type 0
HasValue Absent v = ⊥
HasValue (Held bytes) v = (length bytes ≤ 2 ^ 25) × IsJson bytes v × (depth v ≤ 64)

-- the value that a file has, or that it has none
abbrev pub IsContent : Slot → Option Json → Type 0
IsContent slot None = (v : Json) → ¬ HasValue slot v
IsContent slot (Some v) = HasValue slot v

-- the items of a feature file, none where it has no value
abbrev pub content_items : Option Json → List Json
content_items None = []
content_items (Some v) = items_in v

-- the slot of a file in a folder
abbrev pub IsSlotOf : Files → File → Slot → Type 0
IsSlotOf files f slot = slice_get files.slots (file_number f) ≡ Some slot

-- the content of a file in a folder
pub record HasContent (files : Files) (f : File) (content : Option Json) : Type 0 where
  pub slot : Slot
  pub at : IsSlotOf files f slot
  pub is : IsContent slot content
