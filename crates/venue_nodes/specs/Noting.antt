-- What the parts of the pass over notes note, and where.
use Rattle.std.specs.Prelude.{◌≡◌, ℕ, ◌+◌, ◌*◌, List, [], Option, None, Some, IsSome, Contains, slice_get}
use Rattle.venue_types.specs.declared.feature_id.FeatureId.{FeatureId}
use Rattle.venue_types.specs.declared.features.Ref.{Ref}
use Rattle.venue_types.specs.declared.features.RelationshipRow.{RelationshipRow}
use Rattle.venue_types.specs.declared.finding.Note.{Note}
use Rattle.imdf_schema.specs.declared.table.Property.{Property}
use Rattle.imdf_schema.specs.Places.{note_at}
use Rattle.imdf_schema.specs.Properties.{property_number}
use Rattle.venue_nodes.specs.declared.notes.PlaceNote.{PlaceNote}
use Rattle.venue_nodes.specs.declared.notes.PlaceNote.TheVariants.{N3, N4}
use Rattle.venue_nodes.specs.Unplaced.{Element, elements, note_of, file_noted}

-- the note on a member of the feature of this index
abbrev pub place_note : PlaceNote → ℕ → ℕ → Note
place_note note index member = note_at (note_of note) (file_noted note) index member

-- the reference at this place of the property has no node
pub record LacksNode (find : FeatureId → Option ℕ) (index : ℕ) (property : Property) (place : ℕ) (reference : Ref) (x : Note) : Type 0 where
  pub nowhere : find reference.id ≡ None
  pub is : x ≡ place_note N3 index (property_number property + 64 * place)

-- one of the references of the property has no node
pub record LackNodes (find : FeatureId → Option ℕ) (index : ℕ) (property : Property) (references : List Ref) (x : Note) : Type 0 where
  pub place : ℕ
  pub reference : Ref
  pub there : slice_get references place ≡ Some reference
  pub lacks : LacksNode find index property place reference x

-- the relationship makes a passage, and one of its elements has no node
pub record LeavesElement (find : FeatureId → Option ℕ) (index : ℕ) (row : RelationshipRow) (x : Note) : Type 0 where
  pub passage : IsSome row.kind
  pub element : Element
  pub has : Contains (elements row) element
  pub nowhere : find element.reference.id ≡ None
  pub is : x ≡ place_note N3 index element.member

-- one of the relationships does
pub record LeaveElements (find : FeatureId → Option ℕ) (rows : List RelationshipRow) (x : Note) : Type 0 where
  pub index : ℕ
  pub row : RelationshipRow
  pub there : slice_get rows index ≡ Some row
  pub leaves : LeavesElement find index row x

-- the row of touches is empty, which is noted of the opening of its index
pub record IsEmptyRow (index : ℕ) (row : List ℕ) (x : Note) : Type 0 where
  pub empty : row ≡ []
  pub is : x ≡ place_note N4 index 0

-- one of the rows is
pub record AreEmpty (rows : List (List ℕ)) (x : Note) : Type 0 where
  pub index : ℕ
  pub row : List ℕ
  pub there : slice_get rows index ≡ Some row
  pub is : IsEmptyRow index row x
