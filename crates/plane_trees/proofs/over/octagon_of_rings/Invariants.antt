use Rattle.std.proofs.Common.{◌∷◌, take, drop}
use Rattle.plane_exact.specs.Figure.{AllNearby, ring_points}
use Rattle.plane_trees.specs.Octagons.{IsRound}
use Rattle.plane_trees.proofs.over.octagon_of_rings.Given as goal

-- round the rings so far
abbrev pub invariant-loop-ring : goal.invariant-loop-ring
invariant-loop-ring l = record {
  close : AllNearby (l.origin ∷ ring_points (drop l.ring-index l.rings));
  round : IsRound l.octagon l.origin (ring_points (take l.ring-index l.rings));
}
