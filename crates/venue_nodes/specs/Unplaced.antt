-- What is worth a note: elements of a passage that are no place, and openings that lead nowhere.
use Rattle.std.specs.Prelude.{◌≡◌, ℕ, ◌+◌, ◌*◌, List, [], ◌∷◌, ◌++◌, map, Option, Some, None, IsSome, Contains, slice_get}
use Rattle.std.specs.List.{enumerate_from}
use Rattle.venue_types.specs.declared.features.Features.{Features}
use Rattle.venue_types.specs.declared.features.Ref.{Ref}
use Rattle.venue_types.specs.declared.features.RelationshipRow.{RelationshipRow}
use Rattle.venue_types.specs.declared.finding.Note.{Note}
use Rattle.venue_types.specs.declared.folder_file.File.{File}
use Rattle.venue_types.specs.declared.folder_file.File.TheVariants as file
use Rattle.imdf_schema.specs.declared.table.Property.{Property}
use Rattle.imdf_schema.specs.declared.table.Property.TheVariants as property
use Rattle.imdf_schema.specs.declared.rules.NoteKind.{NoteKind}
use Rattle.imdf_schema.specs.declared.rules.NoteKind.TheVariants as kind
use Rattle.venue_types.specs.FolderFiles.{file_number}
use Rattle.imdf_schema.specs.Rules.{note_number}
use Rattle.imdf_schema.specs.Properties.{property_number}
use Rattle.plane_exact.specs.Opening.{HaveTouch}
use Rattle.venue_nodes.specs.declared.notes.PlaceNote.{PlaceNote}
use Rattle.venue_nodes.specs.declared.notes.PlaceNote.TheVariants.{N3, N4}
use Rattle.venue_nodes.specs.Nodes.{place_of}

-- an element of a relationship, and the member of the feature by which it is told: its property, and its place there
pub record Element : Type 0 where
  pub reference : Ref
  pub member : ℕ

-- the element at a place of a property
abbrev pub element_at : Property → (ℕ × Ref) → Element
element_at p row = record { reference = row.1; member = property_number p + 64 * row.0 }

-- the reference, if there is one
abbrev pub one_or_none : Option Ref → List Ref
one_or_none None = []
one_or_none (Some r) = r ∷ []

-- the elements of a relationship: origin, intermediaries in order, destination, less those that are null
abbrev pub elements : RelationshipRow → List Element
elements row =
    map (element_at property.Origin) (enumerate_from 0 (one_or_none row.origin))
    ++ map (element_at property.Intermediary) (enumerate_from 0 row.between)
    ++ map (element_at property.Destination) (enumerate_from 0 (one_or_none row.destination))

-- the note among all notes
abbrev pub note_of : PlaceNote → NoteKind
note_of N3 = kind.N3
note_of N4 = kind.N4

-- the file of the features that are noted
abbrev pub file_noted : PlaceNote → File
file_noted N3 = file.Relationship
file_noted N4 = file.Opening

-- the relationship of this index makes a passage, and its element of this member is no place
pub record LeavesOut (features : Features) (k member : ℕ) : Type 0 where
  pub relationship : RelationshipRow
  pub there : slice_get features.relationships k ≡ Some relationship
  pub passage : IsSome relationship.kind
  pub element : Element
  pub has : Contains (elements relationship) element
  pub nowhere : place_of features element.reference.id ≡ None
  pub at_member : member ≡ element.member

-- the opening of this index is there and touches no unit at all
pub record LeadsNowhere (features : Features) (border_tol k member : ℕ) : Type 0 where
  pub there : IsSome (slice_get features.openings k)
  pub alone : (u : ℕ) → ¬ HaveTouch border_tol features k u
  pub at_member : member ≡ 0

-- the feature of this index is noted so
abbrev pub PlaceNotes : PlaceNote → Features → ℕ → ℕ → ℕ → Type 0
PlaceNotes N3 features border_tol k member = LeavesOut features k member
PlaceNotes N4 features border_tol k member = LeadsNowhere features border_tol k member

-- an element of a passage has no node, or an opening touches no unit
pub record IsUnplaced (features : Features) (border_tol : ℕ) (x : Note) : Type 0 where
  pub note : PlaceNote
  pub number : x.note ≡ note_number (note_of note)
  pub in_file : x.file ≡ file_number (file_noted note)
  pub is : PlaceNotes note features border_tol x.index x.member
