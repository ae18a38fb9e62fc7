-- Which entries are near some edges.
use Rattle.std.specs.Prelude.{◌≡◌, ℕ, List, ◌∷◌, ◌++◌, Contains}
use Rattle.venue_types.specs.declared.feature_id.FeatureId.{FeatureId}
use Rattle.venue_types.specs.declared.features.UnitRow.{UnitRow}
use Rattle.plane_exact.specs.Figure.{AllNearby, vertices, IsNear}
use Rattle.opening_match.specs.declared.around.Sought.{Sought}
use Rattle.opening_match.specs.declared.edges.Edge.{Edge}
use Rattle.opening_match.specs.declared.entries.Entry.{Entry}
use Rattle.opening_match.specs.Edges.{IsAtEdge}
use Rattle.opening_match.specs.Entries.{start_of}
use Rattle.opening_match.specs.Places.{AreDistinct, ArePlaces}

-- places of entries of the level, each once, and among them that of each entry at one of the edges
pub record AreAround (sought : Sought) (entries : List Entry) (places : List ℕ) : Type 0 where
  pub only : (o : ℕ) → Contains places o → (e : Entry) × Contains entries e × (e.place ≡ o) × (e.level ≡ sought.level)
  pub whole : (e : Entry) (edge : Edge) → Contains entries e → e.level ≡ sought.level → Contains sought.edges.now edge → IsAtEdge sought.tolerance e edge → Contains places e.place
  pub distinct : AreDistinct places

-- the new places are the old ones and some such
abbrev pub AddsAround : Sought → List Entry → List ℕ → List ℕ → Type 0
AddsAround sought entries old new = (added : List ℕ) × (new ≡ old ++ added) × AreAround sought entries added

-- the new places are the old ones and those of the entries of the level
abbrev pub AddsOfLevel : FeatureId → List Entry → List ℕ → List ℕ → Type 0
AddsOfLevel level entries old new = (added : List ℕ) × (new ≡ old ++ added) × ArePlaces (λ (e : Entry). e.place) (λ (e : Entry). e.level ≡ level) entries added

-- places of entries of the unit's level, each once, and among them that of each that begins near the unit's border, nearby all its vertices
pub record AreCandidates (tolerance : ℕ) (unit : UnitRow) (entries : List Entry) (places : List ℕ) : Type 0 where
  pub only : (o : ℕ) → Contains places o → (e : Entry) × Contains entries e × (e.place ≡ o) × (e.level ≡ unit.level)
  pub whole : (e : Entry) → Contains entries e → e.level ≡ unit.level → AllNearby (start_of e ∷ vertices unit.shape) → IsNear (start_of e) unit.shape tolerance → Contains places e.place
  pub distinct : AreDistinct places
