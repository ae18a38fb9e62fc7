use Rattle.std.proofs.Common.{◌≡◌, map}
use Rattle.unit_sight.specs.Tables.{places}
use Rattle.unit_sight.specs.Finding.{is_empty_row}
use Rattle.unit_sight.proofs.guests.blind_places.Given as goal

abbrev pub invariant-loop-i : goal.invariant-loop-i
invariant-loop-i l = l.list.items ≡ map (is_empty_row l.bits) (places l.i)
