use Rattle.std.proofs.Common.{◌≡◌, map, take}
use Rattle.venue_build.specs.Places.{places}
use Rattle.venue_build.specs.Placing.{place_id}
use Rattle.venue_build.proofs.place_table.ids_of.Given as goal

abbrev pub invariant-loop-n : goal.invariant-loop-n
invariant-loop-n l = l.ids.items ≡ map place_id (take l.n (places l.features))
