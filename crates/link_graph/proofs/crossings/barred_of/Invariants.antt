use Rattle.std.proofs.Common.{◌≡◌, take}
use Rattle.link_graph.specs.Making.{barred_from}
use Rattle.link_graph.proofs.crossings.barred_of.Given as goal

abbrev pub invariant-loop-unit : goal.invariant-loop-unit
invariant-loop-unit l = l.barred.items ≡ barred_from l.first (take l.unit-index l.units)
