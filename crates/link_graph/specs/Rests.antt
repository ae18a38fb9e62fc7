-- The stretch of the links by relationships, behind those across units, and where nodes stand in rows: the code's own machinery, which no
-- public contract cites.
use Rattle.std.specs.Prelude.{◌≡◌, ℕ, ◌<◌, [], Contains, Some, length, slice_get, slice_index_or}
use Rattle.link_graph.specs.declared.parts.Core.{Core}
use Rattle.venue_nodes.specs.Rows.{row_list}
use Rattle.venue_nodes.specs.Views.{node_list}
use Rattle.link_graph.specs.declared.parts.Seat.{Seat}
use Rattle.link_graph.specs.declared.stretches.Stretch.{Stretch}
use Rattle.link_graph.specs.declared.stretches.Way.TheVariants.{Between}
use Rattle.link_graph.specs.Cores.{leaving_at, across_count, seats_at}

abbrev pub rest_of : Core → ℕ → Stretch
rest_of core n = record { way = Between; first = across_count core n; count = length (leaving_at core n) }

-- the node has links across the unit of the row
abbrev pub HasSeatIn : Core → ℕ → ℕ → Type 0
HasSeatIn core row a = (a < length (node_list core.nodes)) × (seat : Seat) × Contains (seats_at core a) seat × (seat.row ≡ row)

-- it stands there
abbrev pub IsPlaceOf : Core → ℕ → ℕ → ℕ → Type 0
IsPlaceOf core row a place = slice_get (slice_index_or (row_list core.rows) row []) place ≡ Some a
