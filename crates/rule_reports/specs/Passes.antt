-- What a test finds, and what a pass adds to what was gathered before it.
use Rattle.std.specs.Prelude.{◌⊎◌, Contains, List, [], ◌∷◌, Bool, if◌then◌else◌}

-- the place, where the test holds
abbrev pub found : {A : Type 0} → Bool → A → List A
found holds x = (if holds then x ∷ [] else [])

-- as a set, the new list is the old one and what has the property: how often a place was gathered, and in which order, counts for nothing
pub record Adds {A : Type 0} (P : A → Type 0) (old new : List A) : Type 0 where
  pub kept : (x : A) → Contains old x → Contains new x
  pub only : (x : A) → Contains new x → Contains old x ⊎ P x
  pub whole : (x : A) → P x → Contains new x
