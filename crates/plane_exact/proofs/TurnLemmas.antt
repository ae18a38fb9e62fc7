-- Which of the turns of a ring are corners.
use Rattle.std.proofs.Common.{◌≡◌, ℤ, Bool, true, false, cond, List, [], ◌∷◌, ◌++◌, map, filter, refl}
use Rattle.venue_types.specs.declared.point.Point.{Point}
use Rattle.plane_exact.specs.Corners.{Turn, is_corner}

-- the corners among turns
abbrev pub found : ℤ → List Turn → List Point
found area list = map (λ (turn : Turn). turn.at) (filter (is_corner area) list)

pub found_first : (area : ℤ) (turn : Turn) (list : List Turn) → found area (turn ∷ list) ≡ cond (is_corner area turn) (turn.at ∷ []) [] ++ found area list
found_first area turn list = by_case (is_corner area turn) where
  by_case : (b : Bool) → map (λ (turn : Turn). turn.at) (cond b (turn ∷ filter (is_corner area) list) (filter (is_corner area) list)) ≡ cond b (turn.at ∷ []) [] ++ found area list
  by_case true = refl
  by_case false = refl
