-- The code's own way, and no promise: what the passes find, given the index of identifiers.
use Rattle.std.specs.Prelude.{◌≡◌, ℕ, ◌+◌, ◌*◌, List, [], ◌∷◌, map, slice_get, Option, Some, Contains, true, ◌&&◌, not, ◌⊎◌}
use Rattle.venue_types.specs.declared.feature_id.FeatureId.{FeatureId}
use Rattle.venue_types.specs.declared.features.Features.{Features}
use Rattle.venue_types.specs.declared.finding.Finding.{Finding}
use Rattle.venue_types.specs.declared.folder_file.File.{File}
use Rattle.imdf_schema.specs.declared.table.PropertyRow.{PropertyRow}
use Rattle.imdf_schema.specs.declared.feature_at.FeatureAt.{FeatureAt}
use Rattle.imdf_schema.specs.declared.rules.Rule.TheVariants as rule
use Rattle.imdf_schema.specs.Places.{finding_at}
use Rattle.imdf_schema.specs.Properties.{property_number}
use Rattle.imdf_refs.specs.declared.known.Known.{Known}
use Rattle.imdf_refs.specs.declared.row.References.{References}
use Rattle.imdf_refs.specs.declared.row.References.TheVariants as references
use Rattle.imdf_refs.specs.References.{Reference, by_id, by_object, references_in, file_named}
use Rattle.imdf_refs.specs.Rules.{RepeatsEarlier}
use Rattle.imdf_refs.specs.Index.{has_id, has_typed}

-- the place of the k-th feature of the file
abbrev pub place_of : File → ℕ → FeatureAt
place_of f k = record { file = f; index = k }

-- the references as a list
abbrev pub reference_list : References → List Reference
reference_list references.Nothing = []
reference_list (references.Id id) = by_id id ∷ []
reference_list (references.Ids ids) = map by_id ids.now
reference_list (references.Object object) = by_object object ∷ []
reference_list (references.Objects objects) = map by_object objects.now

-- what names a feature by this identifier, and tells this type or none
abbrev pub reference : FeatureId → Option ℕ → Reference
reference id told = record { id = id; told = told }

-- at a reference, told by the number of its part, that has to name a feature of this file: by the index nothing has the identifier, or nothing of the file
abbrev pub Dangles : Known → FeatureAt → ℕ → FeatureId → Option ℕ → Finding → Type 0
Dangles known place member id f x =
    ((not (has_id known id) ≡ true) × (x ≡ finding_at rule.X1 place.file place.index member))
    ⊎ (((has_id known id && not (has_typed known id f)) ≡ true) × (x ≡ finding_at rule.X2 place.file place.index member))

-- at the reference at this place of the property's list in the k-th feature
abbrev pub DanglesAt : Known → PropertyRow → ℕ → ℕ → Reference → Finding → Type 0
DanglesAt known row k place r x = Dangles known (place_of row.file k) (property_number row.property + 64 * place) r.id (file_named row.names r) x

-- at one of the references of the property in the k-th feature
pub record DanglesAmong (known : Known) (row : PropertyRow) (k : ℕ) (rs : List Reference) (x : Finding) : Type 0 where
  pub place : ℕ
  pub reference : Reference
  pub there : slice_get rs place ≡ Some reference
  pub dangles : DanglesAt known row k place reference x

-- at one of the features whose references of the property these are
pub record DanglesInRows (known : Known) (row : PropertyRow) (rows : List (List Reference)) (x : Finding) : Type 0 where
  pub index : ℕ
  pub references : List Reference
  pub there : slice_get rows index ≡ Some references
  pub dangles : DanglesAmong known row index references x

-- at one of the features of the property's file
abbrev pub DanglesInProperty : Known → Features → PropertyRow → Finding → Type 0
DanglesInProperty known features row x = DanglesInRows known row (references_in features row.file row.property) x

-- in one of the properties
pub record DanglesInTable (known : Known) (features : Features) (table : List PropertyRow) (x : Finding) : Type 0 where
  pub row : PropertyRow
  pub listed : Contains table row
  pub dangles : DanglesInProperty known features row x

-- a feature of the file has the identifier of an earlier one
pub record RepeatsIn (features : Features) (f : File) (x : Finding) : Type 0 where
  pub repeats : RepeatsEarlier features f x.index
  pub is : x ≡ finding_at rule.C7 f x.index 0

-- a feature of some file has the identifier of an earlier one
pub record Repeats (features : Features) (x : Finding) : Type 0 where
  pub source : File
  pub repeats : RepeatsIn features source x
