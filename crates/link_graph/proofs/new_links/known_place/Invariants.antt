use Rattle.std.proofs.Common.{◌≡◌, ◌≢◌, ◌<◌, ℕ, Some}
use Rattle.std.specs.Prelude.{slice_get}
use Rattle.link_graph.specs.declared.parts.Seat.{Seat}
use Rattle.link_graph.proofs.new_links.known_place.Given as goal

-- none of the seats before is in the row
abbrev pub invariant-loop-seat : goal.invariant-loop-seat
invariant-loop-seat l = (j : ℕ) (seat : Seat) → j < l.seat-index → slice_get l.seat-items j ≡ Some seat → seat.row ≢ l.row
