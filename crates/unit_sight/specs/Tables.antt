-- A table of truth values: which places of a room are joined, a row a place.
use Rattle.std.specs.Prelude.{◌≡◌, ℕ, zero, suc, ◌<◌, Bool, true, false, not, ◌&&◌, ◌==◌, nat_le, List, [], ◌∷◌, ◌++◌, length, map, filter, get_or, Option}
use Rattle.std.specs.Option.{option_map_or}

-- the places 0, 1, .. below n
abbrev pub places : ℕ → List ℕ
places zero = []
places (suc n) = places n ++ n ∷ []

-- the table of a test, of n places
abbrev pub table_of : ℕ → (ℕ → ℕ → Bool) → List (List Bool)
table_of n test = map (λ i. map (test i) (places n)) (places n)

-- whether places i and j are joined
abbrev pub joins : List (List Bool) → ℕ → ℕ → Bool
joins table i j = get_or (get_or table i []) j false

-- the neighbours of a place, rising
abbrev pub neighbours : List (List Bool) → ℕ → List ℕ
neighbours table i = filter (joins table i) (places (length table))

-- any two places are joined, and no place is joined to itself
pub record IsWhole (table : List (List Bool)) : Type 0 where
  pub whole : (i j : ℕ) → i < length table → j < length table → joins table i j ≡ not (i == j)

-- j is neither the place that is known nor one of its neighbours; where none is known, every place is new
abbrev pub is_new : List (List Bool) → Option ℕ → ℕ → Bool
is_new table known j = option_map_or (λ (a : ℕ). not (a == j) && not (joins table a j)) known true

-- the neighbours of a place at `from` or behind that are new
abbrev pub new_neighbours : List (List Bool) → ℕ → Option ℕ → ℕ → List ℕ
new_neighbours table i known from = filter (λ j. nat_le from j && is_new table known j) (neighbours table i)
