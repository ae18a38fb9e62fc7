-- The code's own way, and no promise: the index of identifiers, what it answers, and the features of which it has the identifiers.
use Rattle.std.specs.Prelude.{◌≡◌, ℕ, ◌<◌, ◌⊎◌, ◌↔◌, Bool, true, false, Option, Some, None}
use Rattle.std.specs.Ordering.{nat_cmp, ordering_then}
use Rattle.std.specs.declared.cmp.Ordering.{Ordering}
use Rattle.std.specs.BTreeSet.{contains}
use Rattle.venue_types.specs.declared.feature_id.FeatureId.{FeatureId}
use Rattle.venue_types.specs.declared.features.Features.{Features}
use Rattle.venue_types.specs.declared.folder_file.File.{File}
use Rattle.venue_types.specs.FolderFiles.{file_number}
use Rattle.feature_rows.specs.Rows.{IsFeature}
use Rattle.imdf_refs.specs.declared.known.Known.{Known}
use Rattle.imdf_refs.specs.Rules.{IsNamed, IsTyped}

-- by identifier, then by file
abbrev pub pair_cmp : ℕ × ℕ → ℕ × ℕ → Ordering
pair_cmp a b = ordering_then (nat_cmp a.0 b.0) (nat_cmp a.1 b.1)

-- whether the identifier stands in it
abbrev pub has_id : Known → FeatureId → Bool
has_id known id = contains nat_cmp known.ids id.0

-- whether it stands there for a feature of the file of this number
abbrev pub has_typed : Known → FeatureId → Option ℕ → Bool
has_typed known id None = false
has_typed known id (Some f) = contains pair_cmp known.typed (id.0, f)

-- a feature before the k-th of the file of this number has the identifier
pub record IsNamedBefore (features : Features) (n k : ℕ) (id : FeatureId) : Type 0 where
  pub source : File
  pub place : ℕ
  pub there : IsFeature features source place id
  pub before : (file_number source < n) ⊎ ((file_number source ≡ n) × (place < k))

-- a feature of the file numbered f, before the k-th of the file numbered n, has the identifier
pub record IsTypedBefore (features : Features) (n k : ℕ) (id : FeatureId) (f : ℕ) : Type 0 where
  pub source : File
  pub place : ℕ
  pub there : IsFeature features source place id
  pub before : (file_number source < n) ⊎ ((file_number source ≡ n) × (place < k))
  pub of_file : file_number source ≡ f

-- the identifiers of the features before the k-th of the file of this number are in the index
pub record HasBefore (features : Features) (n k : ℕ) (known : Known) : Type 0 where
  pub ids : (id : FeatureId) → (has_id known id ≡ true) ↔ IsNamedBefore features n k id
  pub typed : (id : FeatureId) (f : ℕ) → (has_typed known id (Some f) ≡ true) ↔ IsTypedBefore features n k id f

-- the identifiers of all features are in the index
pub record HasAll (features : Features) (known : Known) : Type 0 where
  pub ids : (id : FeatureId) → (has_id known id ≡ true) ↔ IsNamed features id
  pub typed : (id : FeatureId) (f : ℕ) → (has_typed known id (Some f) ≡ true) ↔ IsTyped features id f
