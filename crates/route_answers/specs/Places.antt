-- The places of rows in a table.
use Rattle.std.specs.Prelude.{◌≡◌, ℕ, ◌≤◌, List, [], ◌∷◌, Some, slice_get}
use Rattle.route_certificate.specs.declared.table.TableLink.{TableLink}

-- the place of the row, from 0, and of equal rows the first
pub record IsFirstPlace (rows : List TableLink) (row : TableLink) (k : ℕ) : Type 0 where
  pub there : slice_get rows k ≡ Some row
  pub first : (j : ℕ) → slice_get rows j ≡ Some row → k ≤ j

-- the first place of each of the wanted rows, one for one
abbrev pub AreFirstPlaces : List TableLink → List TableLink → List ℕ → Type 0
AreFirstPlaces rows [] places = places ≡ []
AreFirstPlaces rows (row ∷ wanted) [] = ⊥
AreFirstPlaces rows (row ∷ wanted) (k ∷ places) = IsFirstPlace rows row k × AreFirstPlaces rows wanted places
