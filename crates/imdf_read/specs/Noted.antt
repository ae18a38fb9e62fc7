-- What is worth a note in an item.
use Rattle.std.specs.Prelude.{◌≡◌, ◌≢◌, ℕ, List, Option, Some, None, true, false, slice_get, codes}
use Rattle.exact_json.specs.Json.{Json, text_bytes}
use Rattle.venue_types.specs.declared.files.Files.{Files}
use Rattle.venue_types.specs.declared.finding.Note.{Note}
use Rattle.imdf_access.specs.Categories.{is_known_unit, passage_of}
use Rattle.venue_types.specs.declared.folder_file.File.{File}
use Rattle.venue_types.specs.declared.folder_file.File.TheVariants as file
use Rattle.imdf_schema.specs.declared.table.Property.TheVariants as property
use Rattle.venue_types.specs.FolderFiles.{file_number}
use Rattle.imdf_schema.specs.Items.{is_feature}
use Rattle.imdf_schema.specs.Items as item
use Rattle.imdf_schema.specs.Contents.{HasContent, content_items}
use Rattle.imdf_schema.specs.declared.rules.NoteKind.{NoteKind}
use Rattle.imdf_schema.specs.declared.rules.NoteKind.TheVariants.{N1, N2, N5}
use Rattle.imdf_schema.specs.Rules.{note_number}

-- what is noted of an item that is a feature
abbrev pub ItemNotes : NoteKind → File → Json → Type 0
-- a unit's category is none of the known ones
ItemNotes N1 f v = (f ≡ file.Unit) × ((category : List ℕ) × (text_bytes (item.property v property.Category) ≡ Some category) × (is_known_unit category ≡ false))
-- a relationship's category makes no passage
ItemNotes N2 f v = (f ≡ file.Relationship) × ((category : List ℕ) × (text_bytes (item.property v property.Category) ≡ Some category) × (passage_of category ≡ None))
-- a unit's restriction is another text than "employeesonly" and "restricted"
ItemNotes N5 f v = (f ≡ file.Unit) × ((text : List ℕ) × (text_bytes (item.property v property.Restriction) ≡ Some text) × (text ≢ codes "employeesonly") × (text ≢ codes "restricted"))
-- no other note is told of an item
ItemNotes _ f v = ⊥

-- a note is due there
pub record IsNoted (files : Files) (x : Note) : Type 0 where
  pub kind : NoteKind
  pub number : x.note ≡ note_number kind
  pub source : File
  pub content : Option Json
  pub held : HasContent files source content
  pub feature : Json
  pub there : slice_get (content_items content) x.index ≡ Some feature
  pub sound : is_feature feature ≡ true
  pub notes : ItemNotes kind source feature
  pub at_file : x.file ≡ file_number source
  pub at_member : x.member ≡ 0
