use Rattle.std.proofs.Common.{◌≡◌, ◌++◌, drop, flat_map}
use Rattle.plane_exact.specs.Figure.{AllNearby, part_points, rings_of}
use Rattle.plane_trees.proofs.bands.bands_of.Given as goal

-- the rings so far and those ahead are all
abbrev pub invariant-loop-part : goal.invariant-loop-part
invariant-loop-part l = record {
  close : AllNearby (flat_map part_points (drop l.part-index l.part-items));
  rings : l.list.items ++ flat_map rings_of (drop l.part-index l.part-items) ≡ flat_map rings_of l.part-items;
}
