use Rattle.std.proofs.Common.{◌≡◌, map, take}
use Rattle.venue_build.specs.Places.{places}
use Rattle.venue_build.specs.Placing.{place_ordinal}
use Rattle.venue_build.proofs.place_table.ordinals_of.Given as goal

abbrev pub invariant-loop-n : goal.invariant-loop-n
invariant-loop-n l = l.ordinals.items ≡ map place_ordinal (take l.n (places l.features))
