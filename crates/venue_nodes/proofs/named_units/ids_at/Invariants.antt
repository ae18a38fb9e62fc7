use Rattle.std.proofs.Common.{◌≡◌, take}
use Rattle.venue_nodes.specs.Naming.{ids_at}
use Rattle.venue_nodes.proofs.named_units.ids_at.Given as goal

abbrev pub invariant-loop-k : goal.invariant-loop-k
invariant-loop-k l = l.ids.items ≡ ids_at l.units (take l.k-index l.indexes)
