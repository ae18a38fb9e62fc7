use Rattle.std.proofs.Common.{◌≡◌, map, take}
use Rattle.venue_nodes.specs.Filling.{seat}
use Rattle.venue_nodes.proofs.unit_rows.seats_in.Given as goal

abbrev pub invariant-loop-unit : goal.invariant-loop-unit
invariant-loop-unit l = l.seats.items ≡ map (seat l.rows) (take l.unit-index l.numbers)
