use Rattle.std.proofs.Common.{◌≡◌, true, not}
use Rattle.std.specs.List.{list_all}
use Rattle.unit_sight.specs.Tables.{joins, places}
use Rattle.unit_sight.proofs.guests.joins_none.Given as goal

abbrev pub invariant-loop-j : goal.invariant-loop-j
invariant-loop-j l = list_all (λ j. not (joins l.bits l.i j)) (places l.j) ≡ true
