-- How an index keeps its places: the code's own machinery, which no public contract cites.
use Rattle.std.specs.Prelude.{◌≡◌, ℕ, ◌<◌, ◌≤◌, ◌==◌, List, [], ◌∷◌, Option, Some, None, if◌then◌else◌, Contains, slice_get, slice_index_or, length}
use Rattle.std.specs.List.Sorted.{IsNonDecreasingBy}
use Rattle.venue_types.specs.declared.feature_id.FeatureId.{FeatureId}
use Rattle.feature_rows.specs.declared.index.Entry.{Entry}

-- the identifiers rise
abbrev pub AreRising : List Entry → Type 0
AreRising entries = IsNonDecreasingBy (λ (e : Entry). e.id.0) entries

-- the identifiers of the first entries, so many, are less than this one, and no others
pub record IsFront (entries : List Entry) (id : FeatureId) (count : ℕ) : Type 0 where
  pub less : (k : ℕ) (d : Entry) → k < count → (slice_index_or entries k d).id.0 < id.0
  pub rest : (k : ℕ) (d : Entry) → count ≤ k → k < length entries → id.0 ≤ (slice_index_or entries k d).id.0

-- the place of the first entry with this identifier
abbrev pub place_in : List Entry → FeatureId → Option ℕ
place_in [] id = None
place_in (e ∷ rest) id = if e.id.0 == id.0 then Some e.place else place_in rest id

-- the entries of the first identifiers, so many
pub record AreEntries (ids : List FeatureId) (count : ℕ) (entries : List Entry) : Type 0 where
  pub only : (e : Entry) → Contains entries e → (e.place < count) × (slice_get ids e.place ≡ Some e.id)
  pub whole : (id : FeatureId) (k : ℕ) → k < count → slice_get ids k ≡ Some id → Contains entries (record { id = id; place = k })
