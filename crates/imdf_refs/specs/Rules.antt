-- The rules of the second phase: where each is broken.
use Rattle.std.specs.Prelude.{◌≡◌, ◌≢◌, ℕ, ◌+◌, ◌*◌, ◌<◌, ◌⊎◌, Some}
use Rattle.venue_types.specs.declared.feature_id.FeatureId.{FeatureId}
use Rattle.venue_types.specs.declared.features.Features.{Features}
use Rattle.venue_types.specs.declared.finding.Finding.{Finding}
use Rattle.venue_types.specs.declared.folder_file.File.{File}
use Rattle.imdf_schema.specs.declared.table.PropertyRow.{PropertyRow}
use Rattle.venue_types.specs.FolderFiles.{file_number}
use Rattle.imdf_schema.specs.Properties.{property_number}
use Rattle.imdf_schema.specs.Rules.{rule_number}
use Rattle.imdf_schema.specs.declared.rules.Rule.{Rule}
use Rattle.imdf_schema.specs.declared.rules.Rule.TheVariants.{C7, X1, X2}
use Rattle.feature_rows.specs.Rows.{IsFeature}
use Rattle.imdf_refs.specs.References.{Reference, Refers, file_named}

-- the first place is before the second, by file, then by index
abbrev pub IsEarlier : File → ℕ → File → ℕ → Type 0
IsEarlier g j f k = (file_number g < file_number f) ⊎ ((g ≡ f) × (j < k))

-- an earlier feature has the same identifier
pub record RepeatsEarlier (features : Features) (f : File) (k : ℕ) : Type 0 where
  pub id : FeatureId
  pub here : IsFeature features f k id
  pub source : File
  pub place : ℕ
  pub there : IsFeature features source place id
  pub earlier : IsEarlier source place f k

-- some feature has this identifier
pub record IsNamed (features : Features) (id : FeatureId) : Type 0 where
  pub source : File
  pub place : ℕ
  pub there : IsFeature features source place id

-- some feature of the file of this number has it
pub record IsTyped (features : Features) (id : FeatureId) (f : ℕ) : Type 0 where
  pub source : File
  pub place : ℕ
  pub there : IsFeature features source place id
  pub of_file : file_number source ≡ f

-- no feature of this identifier is of the type that the reference has to name
abbrev pub IsOfOtherType : Features → PropertyRow → Reference → Type 0
IsOfOtherType features row r = (g : File) (j : ℕ) → IsFeature features g j r.id → file_named row.names r ≢ Some (file_number g)

-- the rules on a reference
abbrev pub ReferenceBreaks : Rule → Features → PropertyRow → Reference → Type 0
-- it names no feature
ReferenceBreaks X1 features row r = ¬ IsNamed features r.id
-- it names a feature, and none of that identifier is of the type that is asked for
ReferenceBreaks X2 features row r = IsNamed features r.id × IsOfOtherType features row r
ReferenceBreaks _ features row r = ⊥

-- the identifier of a feature stands for an earlier one too, which is told of the later
pub record BreaksInId (features : Features) (x : Finding) : Type 0 where
  pub source : File
  pub repeats : RepeatsEarlier features source x.index
  pub in_file : x.file ≡ file_number source
  pub at_member : x.member ≡ 0

-- a rule on a reference is broken, which is told of the property, and of the item's place in its list
pub record BreaksInReference (features : Features) (rule : Rule) (x : Finding) : Type 0 where
  pub row : PropertyRow
  pub place : ℕ
  pub reference : Reference
  pub there : Refers features row x.index place reference
  pub breaks : ReferenceBreaks rule features row reference
  pub in_file : x.file ≡ file_number row.file
  pub at_member : x.member ≡ property_number row.property + 64 * place

-- a rule of the second phase is broken there
pub record IsMisnamed (features : Features) (x : Finding) : Type 0 where
  pub rule : Rule
  pub number : x.rule ≡ rule_number rule
  pub breaks : ((rule ≡ C7) × BreaksInId features x) ⊎ BreaksInReference features rule x
