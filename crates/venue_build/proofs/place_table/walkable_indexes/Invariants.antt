use Rattle.std.proofs.Common.{◌≡◌, take}
use Rattle.venue_build.specs.Placing.{walkable_indexes}
use Rattle.venue_build.proofs.place_table.walkable_indexes.Given as goal

abbrev pub invariant-loop-k : goal.invariant-loop-k
invariant-loop-k l = l.indexes.items ≡ walkable_indexes (take l.k l.units)
