-- The links across units by the members between which one walks, and the links by relationships.
use Rattle.std.specs.Prelude.{◌≡◌, ℕ, ◌<◌, ◌≤◌, ◌==◌, List, [], ◌∷◌, length, map, filter, All, Contains, Bool, false, not, if◌then◌else◌}
use Rattle.std.specs.List.{flat_map}
use Rattle.std.specs.List.Sorted.{IsStrictlyIncreasing}
use Rattle.venue_types.specs.declared.link.Link.{Link}
use Rattle.venue_nodes.specs.Rows.{row_list}
use Rattle.link_graph.specs.declared.areas.Area.{Area}
use Rattle.link_graph.specs.declared.graph.Graph.{Graph}
use Rattle.link_graph.specs.declared.parts.Core.{Core}
use Rattle.link_graph.specs.declared.parts.Crossing.{Crossing}
use Rattle.link_graph.specs.Cores.{barred_in, place_in, way_in}
use Rattle.link_graph.specs.Networks.{Network}
use Rattle.unit_sight.specs.Tables.{joins, IsWhole}

-- the unit of a row
abbrev pub unit_of : Core → Crossing → Area
unit_of core crossing = record { via = crossing.via; kind = crossing.kind; restricted = barred_in core crossing.via }

-- the members of a row between which one walks: none where nobody walks through the unit
abbrev pub walked_of : Crossing → List ℕ → List ℕ
walked_of crossing row = (if crossing.walked then row else [])

-- both, and which of the members of the row are joined
abbrev pub area_of : Core → Crossing → List ℕ → Area × List ℕ × List (List Bool)
area_of core crossing row = (unit_of core crossing, walked_of crossing row, crossing.sights)

-- the units of these rows
abbrev pub areas_in : Core → List Crossing → List (List ℕ) → List (Area × List ℕ × List (List Bool))
areas_in core [] rows = []
areas_in core (crossing ∷ crossings) [] = []
areas_in core (crossing ∷ crossings) (row ∷ rows) = area_of core crossing row ∷ areas_in core crossings rows

-- the units that one may walk across, in file order, each with the members between which one walks, and which of these are joined
unfoldable pub areas : Graph → List (Area × List ℕ × List (List Bool))
areas graph = areas_in graph.core graph.core.crossings.items (row_list graph.core.rows)

-- the links by relationships, in their order
unfoldable pub passages : Graph → List Link
passages graph = graph.core.passages.items

-- the length of the straight line from node to node, in whole centimetres rounded up
unfoldable pub straight : Graph → ℕ → ℕ → ℕ
straight graph a b = way_in graph.core a b

-- the link from member to member of a unit
abbrev pub inside_area : Graph → Area → ℕ → ℕ → Link
inside_area graph area a b = record { from = a; to = b; via = area.via; cost = straight graph a b; kind = area.kind }

-- whether one walks straight from a member of the unit to another, as the table of joined places tells
unfoldable pub joined_across : List (List Bool) → List ℕ → ℕ → ℕ → Bool
joined_across table members a b = joins table (place_in members a) (place_in members b)

-- any two members of the unit are joined, and none to itself
pub record IsWholeAcross (table : List (List Bool)) (members : List ℕ) : Type 0 where
  pub joined : (a b : ℕ) → Contains members a → Contains members b → joined_across table members a b ≡ not (a == b)

-- the links between these members of a unit: by the first end, then by the second
abbrev pub area_links : Graph → (Area × List ℕ × List (List Bool)) → List Link
area_links graph area = flat_map (λ (a : ℕ). map (inside_area graph area.0 a) (filter (joined_across area.2 area.1 a) area.1)) area.1

-- it is a unit of what can be closed, restricted as the network says, its members are few nodes and rise, and the table has a place for each of
-- them, joins none to itself, and where it is whole any two of them
pub record IsArea (network : Network) (area : Area) (members : List ℕ) (table : List (List Bool)) : Type 0 where
  pub via : area.via < length network.closables
  pub barred : network.barred area.via ≡ area.restricted
  pub rise : IsStrictlyIncreasing members
  pub within : All (λ (m : ℕ). m < length network.nodes) members
  pub short : length members ≤ 4096
  pub long : length members ≤ length table
  pub apart : (i : ℕ) → joins table i i ≡ false
  pub whole : IsWhole table → IsWholeAcross table members
