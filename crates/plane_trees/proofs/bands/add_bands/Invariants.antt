use Rattle.std.proofs.Common.{◌≡◌, ◌++◌, ◌∷◌, drop}
use Rattle.plane_exact.specs.Figure.{AllNearby, ring_points}
use Rattle.plane_trees.proofs.bands.add_bands.Given as goal

-- the rings so far and those ahead are all
abbrev pub invariant-loop-hole : goal.invariant-loop-hole
invariant-loop-hole l = record {
  close : AllNearby (ring_points (drop l.hole-index l.hole-items));
  rings : l.list.items ++ drop l.hole-index l.hole-items ≡ l.initial.list.items ++ l.hole-items;
}
