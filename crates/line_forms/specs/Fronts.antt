-- Prefixes of a text.
use Rattle.std.specs.Prelude.{◌≡◌, ℕ, List, [], ◌∷◌, ◌++◌}
use Rattle.std.specs.List.{flat_map, AllByRecursion}

-- the byte stands nowhere in the text
abbrev pub Lacks : ℕ → List ℕ → Type 0
Lacks stop [] = Unit {0}
Lacks stop (b ∷ bs) = (b ≡ stop → ⊥) × Lacks stop bs

-- the text up to the first such byte, and what follows it
pub record IsSplitAt (stop : ℕ) (text front rest : List ℕ) : Type 0 where
  pub parts : text ≡ front ++ stop ∷ rest
  pub first : Lacks stop front

-- no item is spelled at the front of the text
abbrev pub HasNone : {X : Type 0} → (X → List ℕ) → (X → Type 0) → List ℕ → Type 0
HasNone {X} spelling Fits text = (x : X) (more : List ℕ) → Fits x → text ≡ spelling x ++ more → ⊥

-- the text begins with these items, and the rest begins with no further one
pub record IsFront {X : Type 0} (spelling : X → List ℕ) (Fits : X → Type 0) (items : List X) (text rest : List ℕ) : Type 0 where
  pub parts : text ≡ flat_map spelling items ++ rest
  pub fit : AllByRecursion Fits items
  pub all : HasNone spelling Fits rest

-- items are spelled so that no spelling begins another's
abbrev pub IsUnique : {X : Type 0} → (X → List ℕ) → (X → Type 0) → Type 0
IsUnique {X} spelling Fits = (x y : X) (a b : List ℕ) → Fits x → Fits y → spelling x ++ a ≡ spelling y ++ b → (x ≡ y) × (a ≡ b)
