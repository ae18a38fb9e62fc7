use Rattle.std.proofs.Common.{◌≡◌, take}
use Rattle.venue_nodes.specs.Members.{places_where}
use Rattle.venue_nodes.specs.Naming.{can_walk}
use Rattle.venue_nodes.proofs.walkables.indexes_of.Given as goal

abbrev pub invariant-loop-k : goal.invariant-loop-k
invariant-loop-k l = l.indexes.items ≡ places_where can_walk 0 (take l.k l.units)
