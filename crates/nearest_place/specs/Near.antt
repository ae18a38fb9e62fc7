-- What an answer to the question for the nearest says, over the links of a family.
use Rattle.std.specs.Prelude.{ℕ, ◌<◌, ◌≤◌, ◌^◌, List, All, IfSome, map, length}
use Rattle.venue_types.specs.declared.link.Link.{Link}
use Rattle.nearest_laws.specs.Nearest.{Row, IsNearest}
use Rattle.link_graph.specs.Views.{link_view, potential_view}
use Rattle.nearest_place.specs.declared.near.Near.{Near}
use Rattle.nearest_place.specs.declared.near.NearWalk.{NearWalk}

-- a row, as the words on walks have it
abbrev pub row_of : NearWalk → Row Link
row_of row = record { node = row.node; walk = row.walk; cost = row.cost }

-- the first of the targets to which walks lead, up to the limit, with potentials of these nodes alone that show it, and what is reached where there are
-- fewer
abbrev pub IsNear : (Link → Type 0) → ℕ → ℕ → List ℕ → ℕ → Near → Type 0
IsNear IsLink nodes from targets limit near = IsNearest link_view potential_view IsLink nodes from targets limit (map row_of near.rows) near.potentials near.reached

-- a walk of no more links than there are nodes, to one of them, which costs less than 2^42 centimetres
pub record IsSmallWalk (nodes : ℕ) (row : NearWalk) : Type 0 where
  pub there : row.node < nodes
  pub few : length row.walk ≤ nodes
  pub cheap : row.cost < 2 ^ 42

-- what is found keeps within a network of so many nodes
pub record IsSmallNear (nodes : ℕ) (near : Near) : Type 0 where
  pub rows : All (IsSmallWalk nodes) near.rows
  pub reached : IfSome near.reached (All (λ (n : ℕ). n < nodes))
