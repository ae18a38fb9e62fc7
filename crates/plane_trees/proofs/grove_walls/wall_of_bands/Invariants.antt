use Rattle.std.proofs.Common.{drop}
use Rattle.plane_exact.specs.Figure.{ring_edges, ring_points}
use Rattle.plane_trees.proofs.WallLemmas.{AreRingsAhead}
use Rattle.plane_trees.proofs.grove_walls.wall_of_bands.Given as goal

-- the rings ahead decide
abbrev pub invariant-loop-ring : goal.invariant-loop-ring
invariant-loop-ring l = AreRingsAhead (drop l.ring-index l.rings) (ring_edges l.rings) (ring_points l.rings) l.a l.b l.t
