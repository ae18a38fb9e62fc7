-- Where rows stand, by identifier.
use Rattle.std.specs.Prelude.{◌≡◌, ℕ, ◌≤◌, List, Option, Some, IsSome, Contains, slice_get}
use Rattle.venue_types.specs.declared.feature_id.FeatureId.{FeatureId}
use Rattle.feature_rows.specs.declared.index.Index.{Index}
use Rattle.feature_rows.specs.Entries.{place_in}

-- the identifier stands at this place, and at none before
pub record IsFirstAt (ids : List FeatureId) (id : FeatureId) (k : ℕ) : Type 0 where
  pub here : slice_get ids k ≡ Some id
  pub first : (j : ℕ) → slice_get ids j ≡ Some id → k ≤ j

-- the place that the index has for an identifier, if it has one
unfoldable pub place_of : Index → FeatureId → Option ℕ
place_of index id = place_in index.entries.items id

-- the index has the first place of each of the identifiers, and no other
pub record IsIndex (ids : List FeatureId) (index : Index) : Type 0 where
  pub only : (id : FeatureId) (k : ℕ) → place_of index id ≡ Some k → IsFirstAt ids id k
  pub whole : (id : FeatureId) (k : ℕ) → slice_get ids k ≡ Some id → IsSome (place_of index id)

-- each identifier stands at one place at most
pub record AreOnce (ids : List FeatureId) : Type 0 where
  pub once : (k j : ℕ) (id : FeatureId) → slice_get ids k ≡ Some id → slice_get ids j ≡ Some id → k ≡ j

-- the one row of this identifier
pub record IsOnlyRow {R : Type 0} (id_of : R → FeatureId) (rows : List R) (id : FeatureId) (row : R) : Type 0 where
  pub has : Contains rows row
  pub named : id_of row ≡ id
  pub only : (other : R) → Contains rows other → id_of other ≡ id → other ≡ row
