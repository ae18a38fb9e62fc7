use Rattle.std.proofs.Common.{◌≡◌, ◌∷◌, ◌+◌, ◌%◌, cond, drop}
use Rattle.plane_exact.specs.Figure.{AllNearby, ring_points, ring_edges, crossings}
use Rattle.plane_trees.proofs.grove_rays.is_odd_at_bands.Given as goal

-- what was met so far and what is met ahead make up all
abbrev pub invariant-loop-ring : goal.invariant-loop-ring
invariant-loop-ring l = record {
  close : AllNearby (l.p ∷ ring_points (drop l.ring-index l.rings));
  parity : (cond l.odd 1 0 + crossings l.p (ring_edges (drop l.ring-index l.rings))) % 2 ≡ crossings l.p (ring_edges l.rings) % 2;
}
