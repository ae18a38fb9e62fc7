-- The links out of a node, by the rows in which it stands and by passages: the code's own machinery, which no public contract cites.
use Rattle.std.specs.Prelude.{◌≡◌, ℕ, ◌+◌, ◌<◌, ◌≤◌, ◌==◌, List, [], ◌∷◌, filter, Option, None, Some, Bool, slice_get, slice_index_or, nat_lt, if◌then◌else◌}
use Rattle.std.specs.List.{flat_map}
use Rattle.venue_types.specs.declared.link.Link.{Link}
use Rattle.venue_nodes.specs.Rows.{row_list}
use Rattle.link_graph.specs.declared.leads.Lead.{Lead}
use Rattle.link_graph.specs.declared.leads.Lead.TheVariants.{Across, Passage}
use Rattle.link_graph.specs.declared.parts.Core.{Core}
use Rattle.link_graph.specs.declared.parts.Seat.{Seat}
use Rattle.link_graph.specs.Cores.{crossing_at, link_by, links_across_from, others_in}

-- the link starts at the node
abbrev pub starts_at : ℕ → Link → Bool
starts_at n link = link.from == n

-- the links from a node across the unit of a row
unfoldable pub links_of_row : Core → ℕ → ℕ → List Link
links_of_row core n w = elim (crossing_at core w) [
  | None ↦ []
  | Some crossing ↦ (if crossing.walked then links_across_from core crossing (slice_index_or (row_list core.rows) w []) n else [])
]

-- those across the units of these seats
abbrev pub links_of_seats : Core → ℕ → List Seat → List Link
links_of_seats core n seats = flat_map (λ (seat : Seat). links_of_row core n seat.row) seats

-- those by relationships
unfoldable pub passages_out : Core → ℕ → List Link
passages_out core n = filter (starts_at n) core.passages.items

-- the link that is found out of a node
abbrev pub lead_link : Core → ℕ → Lead → Link
lead_link core n (Across way to) = link_by core way n to
lead_link core n (Passage link) = link

-- the links of each seat begin behind those of the seats before it, from this place on, and there are some
abbrev pub AreSeats : Core → ℕ → List Seat → Type 0
AreSeats core at [] = Unit {0}
AreSeats core at (seat ∷ seats) = (seat.first ≡ at) × (0 < others_in core seat.row seat.place) × AreSeats core (at + others_in core seat.row seat.place) seats

-- it is the last of the seats whose links begin at the place or before
pub record IsLastSeat (seats : List Seat) (place : ℕ) (seat : Seat) : Type 0 where
  pub k : ℕ
  pub there : slice_get seats k ≡ Some seat
  pub before : seat.first ≤ place
  pub last : (j : ℕ) (other : Seat) → k < j → slice_get seats j ≡ Some other → place < other.first

-- the links of no seat do
pub record HasNoSeat (seats : List Seat) (place : ℕ) : Type 0 where
  pub all : (j : ℕ) (other : Seat) → slice_get seats j ≡ Some other → place < other.first

-- the link, if it leads from a node that costs so much to one that is listed at this entry at less
abbrev pub lower_than : ℕ → ℕ → Link → Option Link
lower_than entry base link = if nat_lt (base + link.cost) entry then Some link else None
