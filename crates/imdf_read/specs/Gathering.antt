-- What one pass adds to what was gathered before it. This is the code's own way and no promise.
use Rattle.std.specs.Prelude.{◌≡◌, ◌⊎◌, ℕ, ◌+◌, ◌*◌, ◌^◌, List, [], ◌∷◌, Option, Some, Bool, true, false, Contains, slice_get}
use Rattle.exact_json.specs.Json.{Json, IsNarrow}
use Rattle.venue_types.specs.declared.files.Slot.{Slot}
use Rattle.venue_types.specs.declared.finding.Finding.{Finding}
use Rattle.venue_types.specs.declared.finding.Note.{Note}
use Rattle.venue_types.specs.declared.folder_file.File.{File}
use Rattle.imdf_schema.specs.declared.table.PropertyRow.{PropertyRow}
use Rattle.imdf_schema.specs.Properties.{property_number}
use Rattle.imdf_schema.specs.Forms.{item_fits}
use Rattle.imdf_schema.specs.Items.{is_feature, property}
use Rattle.imdf_schema.specs.Contents.{IsContent, content_items}
use Rattle.imdf_schema.specs.declared.rules.Rule.{Rule}
use Rattle.imdf_schema.specs.declared.rules.Rule.TheVariants.{C3, C4, C5, C6, L1, Q1, S3, S4, G1, G2}
use Rattle.imdf_schema.specs.declared.rules.NoteKind.{NoteKind}
use Rattle.imdf_schema.specs.Places.{finding_at, note_at}
use Rattle.imdf_read.specs.Broken.{IsMisformed, FileBreaks, ItemBreaks}
use Rattle.imdf_read.specs.Noted.{ItemNotes}

-- whether a rule on items takes a test of the item alone, and is told of the feature itself
abbrev pub is_plain : Rule → Bool
is_plain C3 = true
is_plain C4 = true
is_plain C5 = true
is_plain L1 = true
is_plain Q1 = true
is_plain S4 = true
is_plain _ = false

abbrev pub plain_rules : List Rule
plain_rules = C3 ∷ C4 ∷ C5 ∷ L1 ∷ Q1 ∷ S4 ∷ []

-- the rule is broken by the item at this place
pub record FindsRule (f : File) (k : ℕ) (item : Json) (rule : Rule) (x : Finding) : Type 0 where
  pub breaks : ItemBreaks rule f item x.member
  pub is : x ≡ finding_at rule f k x.member

-- one of these rules is
pub record FindsBy (rules : List Rule) (f : File) (k : ℕ) (item : Json) (x : Finding) : Type 0 where
  pub rule : Rule
  pub listed : Contains rules rule
  pub finds : FindsRule f k item rule x

-- a rule on its geometry is
abbrev pub FindsInGeometry : File → ℕ → Json → Finding → Type 0
FindsInGeometry f k item x = FindsRule f k item S3 x ⊎ (FindsRule f k item G1 x ⊎ FindsRule f k item G2 x)

-- a rule is
pub record FindsInItem (f : File) (k : ℕ) (item : Json) (x : Finding) : Type 0 where
  pub rule : Rule
  pub finds : FindsRule f k item rule x

-- an item of a property's list isn't of its form
pub record FindsBadItem (row : PropertyRow) (f : File) (k : ℕ) (items : List Json) (x : Finding) : Type 0 where
  pub place : ℕ
  pub item : Json
  pub there : slice_get items place ≡ Some item
  pub unfit : item_fits row.form item ≡ false
  pub is : x ≡ finding_at C6 f k (property_number row.property + 64 * place)

-- a property of the item at this place isn't of its form
pub record FindsMisformed (f : File) (k : ℕ) (item : Json) (row : PropertyRow) (x : Finding) : Type 0 where
  pub of_file : row.file ≡ f
  pub breaks : IsMisformed row (property item row.property) x.member
  pub is : x ≡ finding_at C6 f k x.member

-- one of these properties isn't
pub record FindsMisformedOf (rows : List PropertyRow) (f : File) (k : ℕ) (item : Json) (x : Finding) : Type 0 where
  pub row : PropertyRow
  pub listed : Contains rows row
  pub finds : FindsMisformed f k item row x

-- a value whose lists are short enough for the numbers of a finding
abbrev pub IsShort : Json → Type 0
IsShort v = IsNarrow (2 ^ 25) v

-- a rule is broken by an item of the list
pub record FindsInItems (f : File) (items : List Json) (x : Finding) : Type 0 where
  pub place : ℕ
  pub item : Json
  pub there : slice_get items place ≡ Some item
  pub finds : FindsInItem f place item x

-- a rule is broken by the file as a whole
pub record FindsInSlot (f : File) (slot : Slot) (x : Finding) : Type 0 where
  pub rule : Rule
  pub breaks : FileBreaks rule f slot
  pub is : x ≡ finding_at rule f 0 0

-- a rule is broken by the file as a whole, or by an item of its
abbrev pub FindsInFile : File → Slot → Finding → Type 0
FindsInFile f slot x = FindsInSlot f slot x ⊎ ((content : Option Json) × IsContent slot content × FindsInItems f (content_items content) x)

-- a note of these kinds is due to the item at this place
pub record NotesBy (kinds : List NoteKind) (f : File) (k : ℕ) (item : Json) (x : Note) : Type 0 where
  pub kind : NoteKind
  pub listed : Contains kinds kind
  pub due : ItemNotes kind f item
  pub is : x ≡ note_at kind f k 0

-- a note is due to the item at this place
pub record NotesInItem (f : File) (k : ℕ) (item : Json) (x : Note) : Type 0 where
  pub kind : NoteKind
  pub sound : is_feature item ≡ true
  pub due : ItemNotes kind f item
  pub is : x ≡ note_at kind f k 0

-- a note is due to an item of the list
pub record NotesInItems (f : File) (items : List Json) (x : Note) : Type 0 where
  pub place : ℕ
  pub item : Json
  pub there : slice_get items place ≡ Some item
  pub notes : NotesInItem f place item x

-- a note is due to an item of the file
abbrev pub NotesInFile : File → Slot → Note → Type 0
NotesInFile f slot x = (content : Option Json) × IsContent slot content × NotesInItems f (content_items content) x
