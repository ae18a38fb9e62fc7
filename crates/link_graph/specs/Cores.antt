-- What a graph keeps, and the network that it means: the code's own machinery, which no public contract cites.
use Rattle.std.specs.Prelude.{◌≡◌, ◌≢◌, ℕ, ◌+◌, ◌<◌, ◌≤◌, ◌==◌, pos, List, [], ◌∷◌, ◌++◌, map, filter, length, All, AllPairs, Contains, sum_by, slice_get, slice_index_or, Option, Some, None, Bool, false, nat_lt, if◌then◌else◌}
use Rattle.std.specs.List.{flat_map}
use Rattle.std.specs.List.Sorted.{IsStrictlyIncreasing}
use Rattle.venue_types.specs.declared.feature_id.FeatureId.{FeatureId}
use Rattle.venue_types.specs.declared.link.Link.{Link}
use Rattle.venue_types.specs.declared.link.Node.{Node}
use Rattle.venue_types.specs.declared.point.Spot.{Spot}
use Rattle.imdf_access.specs.declared.parts.EndFacts.{EndFacts}
use Rattle.imdf_access.specs.Access.{elsewhere}
use Rattle.imdf_access.specs.Parts.{end_facts}
use Rattle.plane_exact.specs.Plane.{IsCloseDoubled}
use Rattle.venue_nodes.specs.declared.members.Membership.{Membership}
use Rattle.venue_nodes.specs.Crowds.{square_of}
use Rattle.venue_nodes.specs.Members.{places_where}
use Rattle.venue_nodes.specs.Numbering.{number_among}
use Rattle.venue_nodes.specs.Rows.{row_list}
use Rattle.venue_nodes.specs.Standing.{standings}
use Rattle.venue_nodes.specs.Views.{node_list, find_place, closable_list, find_closable}
use Rattle.link_graph.specs.declared.parts.Core.{Core}
use Rattle.link_graph.specs.declared.parts.Crossing.{Crossing}
use Rattle.link_graph.specs.declared.parts.Door.{Door}
use Rattle.link_graph.specs.declared.parts.Seat.{Seat}
use Rattle.link_graph.specs.declared.parts.UnitWay.{UnitWay}
use Rattle.unit_sight.specs.Tables.{joins, neighbours}
use Rattle.link_graph.specs.declared.stretches.Stretch.{Stretch}
use Rattle.link_graph.specs.declared.stretches.Way.TheVariants.{Inside, Between}
use Rattle.link_graph.specs.Lengths.{length_between}
use Rattle.link_graph.specs.Networks.{Network}

-- ---- the links

abbrev pub spot_in : Core → ℕ → Spot
spot_in core n = elim (slice_get (node_list core.nodes) n) [ None ↦ record { x = pos 0; y = pos 0 } | Some node ↦ node.spot ]

abbrev pub way_in : Core → ℕ → ℕ → ℕ
way_in core a b = length_between (spot_in core a) (spot_in core b) core.kx core.ky

-- the link from node to node by this way
abbrev pub link_by : Core → UnitWay → ℕ → ℕ → Link
link_by core way a b = record { from = a; to = b; via = way.via; cost = way_in core a b; kind = way.kind }

-- by what one crosses the unit
abbrev pub way_of : Crossing → UnitWay
way_of crossing = record { via = crossing.via; kind = crossing.kind }

-- the link from member to member across the unit of a row
abbrev pub link_across : Core → Crossing → ℕ → ℕ → Link
link_across core crossing a b = link_by core (way_of crossing) a b

-- where a member stands in a row, from 0
abbrev pub place_in : List ℕ → ℕ → ℕ
place_in [] a = 0
place_in (m ∷ row) a = if m == a then 0 else place_in row a + 1

-- whether one walks straight from a member of the row of a unit to another, as the unit's table of joined places tells
unfoldable pub joined_in : Crossing → List ℕ → ℕ → ℕ → Bool
joined_in crossing row a b = joins crossing.sights (place_in row a) (place_in row b)

-- the table of a unit has a place for each member of its row, and joins none to itself
pub record IsTableOf (crossing : Crossing) (row : List ℕ) : Type 0 where
  pub long : length crossing.sights ≡ length row
  pub apart : (i : ℕ) → joins crossing.sights i i ≡ false

-- the links from a member of a row to those with which it is joined
abbrev pub links_across_from : Core → Crossing → List ℕ → ℕ → List Link
links_across_from core crossing row a = map (link_across core crossing a) (filter (joined_in crossing row a) row)

-- the links across the unit of a row, where one walks through it
abbrev pub links_across : Core → Crossing → List ℕ → List Link
links_across core crossing row = (if crossing.walked then flat_map (links_across_from core crossing row) row else [])

-- the links across the units of these rows
abbrev pub links_across_all : Core → List Crossing → List (List ℕ) → List Link
links_across_all core [] rows = []
links_across_all core (crossing ∷ crossings) [] = []
links_across_all core (crossing ∷ crossings) (row ∷ rows) = links_across core crossing row ++ links_across_all core crossings rows

unfoldable pub links_in : Core → List Link
links_in core = links_across_all core core.crossings.items (row_list core.rows) ++ core.passages.items

-- ---- nodes and what can be closed

-- what a node asks; nothing where there is none
abbrev pub asks_of : Option Door → EndFacts
asks_of None = end_facts elsewhere
asks_of (Some door) = door.facts

unfoldable pub ends_in : Core → ℕ → EndFacts
ends_in core n = asks_of (slice_get core.doors.items n)

unfoldable pub barred_in : Core → ℕ → Bool
barred_in core k = slice_index_or core.barred.items k false

-- ---- stretches

-- the unit of a row
abbrev pub crossing_at : Core → ℕ → Option Crossing
crossing_at core w = slice_get core.crossings.items w

-- how many links the member at a place of a row has across its unit
abbrev pub others_in : Core → ℕ → ℕ → ℕ
others_in core w i = elim (crossing_at core w) [ None ↦ 0 | Some crossing ↦ (if crossing.walked then length (neighbours crossing.sights i) else 0) ]

-- where a node stands in the rows in which it has links, with the place of the first of these
abbrev pub seats_from : Core → ℕ → List Membership → List Seat
seats_from core at [] = []
seats_from core at (m ∷ ms) =
    (if nat_lt 0 (others_in core m.unit m.place) then record { row = m.unit; place = m.place; first = at } ∷ seats_from core (at + others_in core m.unit m.place) ms
    else seats_from core at ms)

abbrev pub seats_at : Core → ℕ → List Seat
seats_at core n = slice_index_or core.seats.items n []

abbrev pub leaving_at : Core → ℕ → List ℕ
leaving_at core n = slice_index_or core.leaving.items n []

-- how many links a node has across units
abbrev pub across_count : Core → ℕ → ℕ
across_count core n = sum_by (λ (seat : Seat). others_in core seat.row seat.place) (seats_at core n)

-- a seat as a stretch
abbrev pub stretch_of : Core → Seat → Stretch
stretch_of core seat = elim (crossing_at core seat.row) [
  | None ↦ record { way = Between; first = seat.first; count = 0 }
  | Some crossing ↦ record { way = Inside crossing.via crossing.kind (barred_in core crossing.via); first = seat.first; count = others_in core seat.row seat.place }
]

unfoldable pub stretches_in : Core → ℕ → List Stretch
stretches_in core n =
    map (stretch_of core) (seats_at core n) ++ record { way = Between; first = across_count core n; count = length (leaving_at core n) } ∷ []

-- ---- the network

unfoldable pub network_in : Core → Network
network_in core = record {
  nodes = node_list core.nodes;
  place = find_place core.nodes;
  closables = closable_list core.nodes;
  first_unit = core.first_unit;
  ends = ends_in core;
  barred = barred_in core;
  links = links_in core;
  stretches = stretches_in core;
}

-- ---- what is kept of it

-- a unit's number is above those of openings and relationships, and that of something that can be closed
pub record IsCrossing (core : Core) (crossing : Crossing) : Type 0 where
  pub unit : core.first_unit ≤ crossing.via
  pub within : crossing.via < length (closable_list core.nodes)

-- a link by a relationship leads from a node to another
pub record IsPassage (core : Core) (link : Link) : Type 0 where
  pub from : link.from < length (node_list core.nodes)
  pub to : link.to < length (node_list core.nodes)
  pub apart : link.from ≢ link.to
  pub via : link.via < core.first_unit
  pub cost : link.cost ≤ 6700000

-- the members of a row are nodes and rise, and there are few
pub record IsRow (core : Core) (row : List ℕ) : Type 0 where
  pub rise : IsStrictlyIncreasing row
  pub within : All (λ m. m < length (node_list core.nodes)) row
  pub short : length row ≤ 4096

-- a door has the closable number of its node's identifier
pub record AreDoors (core : Core) : Type 0 where
  pub count : length core.doors.items ≡ length (node_list core.nodes)
  pub own : (n : ℕ) (node : Node) (door : Door) → slice_get (node_list core.nodes) n ≡ Some node → slice_get core.doors.items n ≡ Some door
      → door.closable ≡ number_among (closable_list core.nodes) node.id

-- for each node its seats, and the numbers of the passages that start there
pub record AreSeated (core : Core) : Type 0 where
  pub seats_count : length core.seats.items ≡ length (node_list core.nodes)
  pub seats_are : (n : ℕ) → seats_at core n ≡ seats_from core 0 (standings n 0 (row_list core.rows))
  pub leaving_count : length core.leaving.items ≡ length (node_list core.nodes)
  pub leaving_are : (n : ℕ) → leaving_at core n ≡ places_where (λ (link : Link). link.from == n) 0 core.passages.items

-- what every graph keeps
pub record IsSoundCore (core : Core) : Type 0 where
  pub rows : All (IsRow core) (row_list core.rows)
  pub squares : sum_by square_of (row_list core.rows) ≤ 20000000
  pub paired : length core.crossings.items ≡ length (row_list core.rows)
  pub crossings : All (IsCrossing core) core.crossings.items
  pub tables : (w : ℕ) (crossing : Crossing) (row : List ℕ) → slice_get core.crossings.items w ≡ Some crossing → slice_get (row_list core.rows) w ≡ Some row → IsTableOf crossing row
  pub units_last : core.first_unit ≤ length (closable_list core.nodes)
  pub apart : IsStrictlyIncreasing (map (λ (crossing : Crossing). crossing.via) core.crossings.items)
  pub passages : All (IsPassage core) core.passages.items
  pub few_passages : length core.passages.items ≤ 12800000
  pub doors : AreDoors core
  pub seated : AreSeated core
  pub barred : length core.barred.items ≡ length (closable_list core.nodes)
  pub numbered : (id : FeatureId) → find_closable core.nodes id ≡ number_among (closable_list core.nodes) id
  pub once : AllPairs (λ a b. a ≢ b) (closable_list core.nodes)
  pub few_nodes : length (node_list core.nodes) ≤ 400000
  pub close : (a b : Node) → Contains (node_list core.nodes) a → Contains (node_list core.nodes) b → IsCloseDoubled a.spot b.spot
  pub kx_range : core.kx ≤ 20000000
  pub ky_range : core.ky ≤ 20000000
