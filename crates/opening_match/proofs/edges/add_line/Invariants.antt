use Rattle.std.proofs.Common.{◌∷◌, drop}
use Rattle.plane_exact.specs.Figure.{edges_from}
use Rattle.opening_match.proofs.EdgeLists.{Leads}
use Rattle.opening_match.proofs.edges.add_line.Given as goal

-- the edges from here on are what is left to add
abbrev pub invariant-loop-to : goal.invariant-loop-to
invariant-loop-to l = Leads l.fn.list.items (edges_from l.fn.start l.rest) (l.fn.start ∷ l.rest) l.list.items (edges_from l.from (drop l.to-index l.rest)) (l.from ∷ drop l.to-index l.rest)
