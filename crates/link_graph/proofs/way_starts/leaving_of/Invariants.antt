use Rattle.std.proofs.Common.{take}
use Rattle.link_graph.specs.Making.{AreLeaving}
use Rattle.link_graph.proofs.way_starts.leaving_of.Given as goal

-- the links before are listed
abbrev pub invariant-loop-k : goal.invariant-loop-k
invariant-loop-k l = AreLeaving (take l.k l.links) l.count l.leaving.items
