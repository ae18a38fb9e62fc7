-- The members of a unit: the nodes between which one walks through it.
use Rattle.std.specs.Prelude.{ℕ, ◌+◌, List, [], ◌∷◌, Bool, if◌then◌else◌}
use Rattle.std.specs.List.{list_any}
use Rattle.venue_types.specs.declared.features.Features.{Features}
use Rattle.venue_types.specs.declared.features.UnitRow.{UnitRow}
use Rattle.venue_types.specs.declared.settings.Settings.{Settings}
use Rattle.venue_nodes.specs.Identity.{is_same}
use Rattle.venue_nodes.specs.Touching.{does_touch}
use Rattle.venue_nodes.specs.Nodes.{NodeRow, amenity, anchor, opening, unit, corner, node_rows}

-- an amenity that names the unit, an anchor that names it, an opening that touches it, the unit itself, and its corners
abbrev pub is_member : ℕ → UnitRow → NodeRow → Bool
is_member border_tol u (amenity row) = list_any (λ id. is_same id u.id) row.units
is_member border_tol u (anchor row) = is_same row.unit u.id
is_member border_tol u (opening row) = does_touch border_tol row u
is_member border_tol u (unit row) = is_same row.id u.id
is_member border_tol u (corner row n p) = is_same row.id u.id

-- the places at which the test holds, counted from n
abbrev pub places_where : {A : Type 0} → (A → Bool) → ℕ → List A → List ℕ
places_where test n [] = []
places_where test n (x ∷ xs) = if test x then n ∷ places_where test (n + 1) xs else places_where test (n + 1) xs

-- the numbers of the members of a walkable unit, rising
unfoldable pub members : Features → Settings → UnitRow → List ℕ
members features settings u = places_where (is_member settings.border_tol u) 0 (node_rows features settings)
