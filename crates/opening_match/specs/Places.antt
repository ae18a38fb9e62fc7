-- Places of some items, each once.
use Rattle.std.specs.Prelude.{◌≡◌, ◌≢◌, ℕ, List, AllPairs, Contains}

-- no place stands twice
abbrev pub AreDistinct : List ℕ → Type 0
AreDistinct places = AllPairs (λ a b. a ≢ b) places

-- the places of those of the items of which P holds, each once
pub record ArePlaces {X : Type 0} (place_of : X → ℕ) (P : X → Type 0) (items : List X) (places : List ℕ) : Type 0 where
  pub only : (o : ℕ) → Contains places o → (x : X) × Contains items x × (place_of x ≡ o) × P x
  pub whole : (x : X) → Contains items x → P x → Contains places (place_of x)
  pub distinct : AreDistinct places
