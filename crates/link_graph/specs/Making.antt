-- What a graph keeps, as it is made of the features: the code's own machinery, which no public contract cites.
use Rattle.std.specs.Prelude.{◌≡◌, ℕ, pos, ◌+◌, ◌-◌, ◌<◌, ◌≤◌, ◌==◌, List, [], ◌∷◌, ◌++◌, map, flat_map, length, replicate, sum_by, slice_get, slice_index_or, All, Contains, Option, Some, None, Bool, false, not, nat_lt, if◌then◌else◌}
use Rattle.std.specs.List.{enumerate_from, filter_map}
use Rattle.venue_types.specs.declared.feature_id.FeatureId.{FeatureId}
use Rattle.venue_types.specs.declared.features.Features.{Features}
use Rattle.venue_types.specs.declared.features.Ref.{Ref}
use Rattle.venue_types.specs.declared.features.UnitRow.{UnitRow}
use Rattle.venue_types.specs.declared.link.Link.{Link}
use Rattle.venue_types.specs.declared.link.Node.{Node}
use Rattle.venue_types.specs.declared.point.Spot.{Spot}
use Rattle.venue_nodes.specs.Figures.{judged_positions}
use Rattle.venue_nodes.specs.Sound.{AreSound}
use Rattle.plane_exact.specs.Figure.{AllClose}
use Rattle.venue_types.specs.declared.settings.Settings.{Settings}
use Rattle.imdf_access.specs.Categories.{is_walkable, unit_kind_of}
use Rattle.imdf_access.specs.Parts.{end_facts}
use Rattle.plane_exact.specs.Plane.{IsCloseDoubled}
use Rattle.venue_nodes.specs.declared.corner_nodes.CornerRange.{CornerRange}
use Rattle.venue_nodes.specs.declared.members.Membership.{Membership}
use Rattle.venue_nodes.specs.declared.nodes.Nodes.{Nodes}
use Rattle.venue_nodes.specs.Crowds.{IsRoomy, square_of}
use Rattle.venue_nodes.specs.Members.{members, places_where}
use Rattle.venue_nodes.specs.Nodes.{NodeRow, amenity, anchor, opening, unit, corner, node_rows, carries}
use Rattle.venue_nodes.specs.Rows.{AreRowsOf, row_list}
use Rattle.venue_nodes.specs.Standing.{standings}
use Rattle.venue_nodes.specs.Views.{AreNodes, node_list, find_closable}
use Rattle.link_graph.specs.declared.parts.Core.{Core}
use Rattle.link_graph.specs.declared.parts.Crossing.{Crossing}
use Rattle.link_graph.specs.declared.parts.Door.{Door}
use Rattle.link_graph.specs.declared.parts.Seat.{Seat}
use Rattle.link_graph.specs.declared.trails.Ground.{Ground}
use Rattle.link_graph.specs.Cores.{IsTableOf}
use Rattle.link_graph.specs.Facts.{end_of}
use Rattle.link_graph.specs.Links.{first_unit, are_joined, relationship_links}
use Rattle.unit_sight.specs.Tables.{neighbours, table_of}

-- ---- units

-- whether the members at two places of these are joined in the unit
abbrev pub joined_at : Features → Settings → UnitRow → List ℕ → ℕ → ℕ → Bool
joined_at features settings u row i j = are_joined features settings u (slice_index_or row i 0) (slice_index_or row j 0)

-- which members of the unit are joined, by their places; where people are carried nothing is asked, and any two are
abbrev pub room_table : Features → Settings → UnitRow → List (List Bool)
room_table features settings u =
    table_of (length (members features settings u)) (if carries u then (λ i j. not (i == j)) else joined_at features settings u (members features settings u))

-- the unit of this number among what can be closed, as one that is crossed
abbrev pub crossing_of : Features → Settings → ℕ → UnitRow → Crossing
crossing_of features settings via u = record { via = via; kind = unit_kind_of u.category; walked = not (carries u); sights = room_table features settings u }

-- the walkable ones of the units, which are numbered from here
abbrev pub crossings_from : Features → Settings → ℕ → List UnitRow → List Crossing
crossings_from features settings via [] = []
crossings_from features settings via (u ∷ us) =
    (if is_walkable u.category then crossing_of features settings via u ∷ crossings_from features settings (via + 1) us else crossings_from features settings (via + 1) us)

-- behind so many that are no units, whether each unit is restricted
abbrev pub barred_from : ℕ → List UnitRow → List Bool
barred_from count units = replicate count false ++ map (λ (u : UnitRow). u.restricted) units

-- ---- nodes

abbrev pub id_of_row : NodeRow → FeatureId
id_of_row (amenity row) = row.id
id_of_row (anchor row) = row.id
id_of_row (opening row) = row.id
id_of_row (unit row) = row.id
id_of_row (corner row n p) = row.id

-- what is known of the node of a feature, by the numbers of what can be closed
abbrev pub door_of : (FeatureId → Option ℕ) → NodeRow → Door
door_of find row = record { facts = end_facts (end_of row); closable = find (id_of_row row) }

-- of each of these as many as its range has numbers
abbrev pub copies_by : List CornerRange → List Door → List Door
copies_by [] doors = []
copies_by (range ∷ ranges) [] = []
copies_by (range ∷ ranges) (door ∷ doors) = replicate (range.end - range.start) door ++ copies_by ranges doors

-- of one as many as the range at this place has numbers; none where there is no range
abbrev pub copies_at : List CornerRange → ℕ → Door → List Door
copies_at ranges w door = elim (slice_get ranges w) [ None ↦ [] | Some range ↦ replicate (range.end - range.start) door ]

-- any two nodes are close
pub record AreClose (nodes : Nodes) : Type 0 where
  pub close : (a b : Node) → Contains (node_list nodes) a → Contains (node_list nodes) b → IsCloseDoubled a.spot b.spot

-- ---- relationships

-- the nodes that passages are made over are those of the features, and close
pub record IsGround (ground : Ground) : Type 0 where
  pub nodes : AreNodes ground.features.now ground.settings.now ground.nodes.now
  pub close : AreClose ground.nodes.now

-- where a node of this number is
abbrev pub spot_at : List Node → ℕ → Spot
spot_at list n = elim (slice_get list n) [ None ↦ record { x = pos 0; y = pos 0 } | Some node ↦ node.spot ]

-- what rooms are looked through on: the nodes of the features of a sound folder whose positions are close
pub record IsRoomGround (ground : Ground) : Type 0 where
  pub nodes : AreNodes ground.features.now ground.settings.now ground.nodes.now
  pub sound : AreSound ground.features.now
  pub close : AllClose (judged_positions ground.features.now)

-- the places that these references name
abbrev pub places_on : (FeatureId → Option ℕ) → List Ref → List ℕ
places_on find refs = filter_map (λ (r : Ref). find r.id) refs

-- the links by relationships, of which the first has this number
abbrev pub passages_from : Features → Settings → ℕ → List Link
passages_from features settings via = flat_map (relationship_links features settings) (enumerate_from via features.relationships)

-- ---- seats

-- how many links the member at a place of this row has across its unit
abbrev pub others_among : List Crossing → ℕ → ℕ → ℕ
others_among crossings w i = elim (slice_get crossings w) [ None ↦ 0 | Some crossing ↦ (if crossing.walked then length (neighbours crossing.sights i) else 0) ]

-- of where a node stands the rows in which it has links, with the place of the first of these
abbrev pub seats_among : List Crossing → ℕ → List Membership → List Seat
seats_among crossings at [] = []
seats_among crossings at (m ∷ ms) =
    (if nat_lt 0 (others_among crossings m.unit m.place) then record { row = m.unit; place = m.place; first = at } ∷ seats_among crossings (at + others_among crossings m.unit m.place) ms
    else seats_among crossings at ms)

-- the rows have room, and all their squares too
pub record AreRoomy (rows : List (List ℕ)) : Type 0 where
  pub each : All IsRoomy rows
  pub squares : sum_by square_of rows ≤ 20000000

-- there is a unit for each row, and its table fits it
pub record AreTables (crossings : List Crossing) (rows : List (List ℕ)) : Type 0 where
  pub paired : length crossings ≡ length rows
  pub each : (w : ℕ) (crossing : Crossing) (row : List ℕ) → slice_get crossings w ≡ Some crossing → slice_get rows w ≡ Some row → IsTableOf crossing row

-- for each node its seats
pub record AreSeats (crossings : List Crossing) (rows : List (List ℕ)) (count : ℕ) (seats : List (List Seat)) : Type 0 where
  pub many : length seats ≡ count
  pub each : (n : ℕ) → n < count → slice_index_or seats n [] ≡ seats_among crossings 0 (standings n 0 rows)

-- for each node the numbers of the links that start there
pub record AreLeaving (passages : List Link) (count : ℕ) (leaving : List (List ℕ)) : Type 0 where
  pub many : length leaving ≡ count
  pub each : (n : ℕ) → slice_index_or leaving n [] ≡ places_where (λ (link : Link). link.from == n) 0 passages

-- ---- all of it

-- it is made of these features
pub record IsMadeOf (features : Features) (settings : Settings) (core : Core) : Type 0 where
  pub nodes : AreNodes features settings core.nodes
  pub rows : AreRowsOf features settings core.rows
  pub crossings : core.crossings.items ≡ crossings_from features settings (first_unit features) features.units
  pub doors : core.doors.items ≡ map (door_of (find_closable core.nodes)) (node_rows features settings)
  pub passages : core.passages.items ≡ passages_from features settings (length features.openings)
  pub seats : AreSeats core.crossings.items (row_list core.rows) (length (node_list core.nodes)) core.seats.items
  pub leaving : AreLeaving core.passages.items (length (node_list core.nodes)) core.leaving.items
  pub barred : core.barred.items ≡ barred_from (first_unit features) features.units
  pub first_unit_is : core.first_unit ≡ first_unit features
  pub kx_is : core.kx ≡ settings.kx
  pub ky_is : core.ky ≡ settings.ky
